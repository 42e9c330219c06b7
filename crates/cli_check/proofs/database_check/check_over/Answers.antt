use Rattle.std.proofs.Common.{subst}
use Rattle.store.specs.Tables.{Tables}
use Rattle.cli_check.specs.DatabaseCheck.{Tells}
use Rattle.cli_check.proofs.database_check.check_over.Goals as goal

pub returns : goal.returns
returns g c bytes known = record {
  building = c.in_ok-building.building;
  building_is = c.in_ok-building.ensures bytes known;
  reported = λ tables finds honest.
      subst (λ (held : Tables). Tells c.in_ok-building.building held c.in_ok-status.status (g.W.Write.contents c.args.out.now)
      (g.W.Write.contents c.print_survey-surveyed.new.out)) (c.in_ok-store.ensures tables finds) (c.in_ok-status.ensures.reported honest);
}
