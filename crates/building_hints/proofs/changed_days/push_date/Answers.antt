use Rattle.std.proofs.Common.{◌∙◌, ◌++◌, [], ap, sym, string_bytes, arith, w32, FitsSigned}
use Rattle.std.specs.Option.{option_map_or}
use Rattle.std.proofs.lemmas.Int.{to_z-of_z}
use Rattle.std.proofs.lemmas.List.{append-nil}
use Rattle.jiff_core.proofs.SignedLemmas.{signed_arith}
use Rattle.dates.proofs.DayLemmas.{day_of-new}
use Rattle.building_hints.specs.ChangedDays.{day_hints}
use Rattle.building_hints.proofs.changed_days.push_date.Goals as goal

pub returns-in-Some : goal.returns-in-Some
returns-in-Some c =
    let a = c.args in
    let building = a.import.now.building.now in
    let hints = day_hints building.calendars building.schedules a.import.now.rows.now in
    let fits : FitsSigned w32 c.from.result = omega (arith, signed_arith, c.from.type_inv) in
    let exists = rw c.from.ensures at (simp to_z-of_z at c.new.ensures.exists) in
    let value = rw c.from.ensures at (simp to_z-of_z at c.new.ensures.value) in
    let new = day_of-new a.year a.month a.day c.new.result exists value in
    let is = ap (λ o. option_map_or hints o []) (sym (sym c.in-Some.is ∙ new)) in
    rw is c.push_day.ensures

pub returns-in-None : goal.returns-in-None
returns-in-None c =
    let a = c.args in
    let building = a.import.now.building.now in
    let hints = day_hints building.calendars building.schedules a.import.now.rows.now in
    let fits : FitsSigned w32 c.from.result = omega (arith, signed_arith, c.from.type_inv) in
    let exists = rw c.from.ensures at (simp to_z-of_z at c.new.ensures.exists) in
    let value = rw c.from.ensures at (simp to_z-of_z at c.new.ensures.value) in
    let new = day_of-new a.year a.month a.day c.new.result exists value in
    sym (append-nil (string_bytes a.text.now))
    ∙ ap (λ o. string_bytes a.text.now ++ option_map_or hints o []) (sym c.in-None.is ∙ new)
