use Rattle.std.proofs.Common.{◌≡◌, rules, string_bytes}
use Rattle.building.specs.Building.{contents_of}
use Rattle.building_hints.proofs.file_hints.hints_over.Goals as goal

pub returns : goal.returns
returns g c =
    let same : c.as_str.result.now ≡ string_bytes c.in_ok-text.text = search rules in
    λ bytes known. record {
      contents = contents_of c.in_ok-building.building;
      contents_are = c.in_ok-building.ensures bytes known;
      text = string_bytes c.in_ok-text.text;
      text_is = c.in_ok-text.ensures;
      printed = rw same at c.in_ok-print_whole.ensures;
    }
