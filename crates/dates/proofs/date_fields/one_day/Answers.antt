-- `Day::new` makes the day that has these parts.
use Rattle.std.proofs.Common.{rules, arith, ◌∙◌, ap, w32, FitsSigned}
use Rattle.std.specs.Option.{ok_or}
use Rattle.std.proofs.lemmas.Int.{to_z-of_z}
use Rattle.jiff_core.proofs.SignedLemmas.{signed_arith}
use Rattle.dates.specs.DateFields.{one_day}
use Rattle.dates.specs.declared.entry_fault.EntryFault.TheVariants.{Day}
use Rattle.dates.proofs.DayLemmas.{day_of-new}
use Rattle.dates.proofs.date_fields.one_day.Goals as goal

pub returns : goal.returns
unfolding one_day
returns c =
    let fits : FitsSigned w32 c.from.result = omega (arith, signed_arith, c.from.type_inv) in
    let exists = rw c.from.ensures at (simp to_z-of_z at c.new.ensures.exists) in
    let value = rw c.from.ensures at (simp to_z-of_z at c.new.ensures.value) in
    let is =
    rw c.number-year.ensures.value at (day_of-new c.number-year.result c.in_ok-month.month c.in_ok-day.day c.new.result exists value) in
    let reported = c.ok_or-4.ensures.value ∙ ap (λ day. ok_or day Day) is in
    search rules
