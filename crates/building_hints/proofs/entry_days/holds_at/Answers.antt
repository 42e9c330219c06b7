use Rattle.std.proofs.Common.{false, sym, ap, ◌∙◌, arith, w32, FitsSigned}
use Rattle.std.specs.Option.{option_map_or}
use Rattle.std.proofs.lemmas.Int.{to_z-of_z}
use Rattle.jiff_core.proofs.SignedLemmas.{signed_arith}
use Rattle.dates.specs.Entry.{holds_on}
use Rattle.dates.proofs.DayLemmas.{day_of-new}
use Rattle.building_hints.proofs.entry_days.holds_at.Goals as goal

pub returns-in-Some : goal.returns-in-Some
returns-in-Some c =
    let a = c.args in
    let fits : FitsSigned w32 c.from.result = omega (arith, signed_arith, c.from.type_inv) in
    let exists = rw c.from.ensures at (simp to_z-of_z at c.new.ensures.exists) in
    let value = rw c.from.ensures at (simp to_z-of_z at c.new.ensures.value) in
    let new = day_of-new a.year a.month a.day c.new.result exists value in
    c.holds.ensures ∙ ap (λ o. option_map_or (holds_on a.entry.now) o false) (sym c.in-Some.is ∙ new)

pub returns-in-None : goal.returns-in-None
returns-in-None c =
    let a = c.args in
    let fits : FitsSigned w32 c.from.result = omega (arith, signed_arith, c.from.type_inv) in
    let exists = rw c.from.ensures at (simp to_z-of_z at c.new.ensures.exists) in
    let value = rw c.from.ensures at (simp to_z-of_z at c.new.ensures.value) in
    let new = day_of-new a.year a.month a.day c.new.result exists value in
    ap (λ o. option_map_or (holds_on a.entry.now) o false) (sym c.in-None.is ∙ new)
