use Rattle.std.proofs.Common.{◌∙◌, ap, sym}
use Rattle.building.specs.BuildingFile.{building_of}
use Rattle.cli_common.proofs.ReadingLemmas.{building_of-taken}
use Rattle.cli_check.proofs.explained.building_in.Goals as goal

pub returns-in-Ok : goal.returns-in-Ok
returns-in-Ok g c = λ bytes known.
    building_of-taken bytes _
    (ap building_of (sym (c.as_slice.ensures.value ∙ c.in_ok-start.ensures bytes known)) ∙ c.in-Ok.ensures)
