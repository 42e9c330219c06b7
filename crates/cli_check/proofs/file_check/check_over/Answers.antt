use Rattle.building.specs.Building.{contents_of}
use Rattle.cli_check.proofs.file_check.check_over.Goals as goal

pub returns : goal.returns
returns g c = λ bytes known. record {
  contents = contents_of c.in_ok-building.building;
  contents_are = c.in_ok-building.ensures bytes known;
  printed = c.in_ok-print_counts.ensures;
}
