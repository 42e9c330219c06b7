use Rattle.std.proofs.Common.{◌≡◌, ◌↔◌, ◌∙◌, IfSome, IsSome, pos, subst, rules, of_z, to_z, w32}
use Rattle.jiff_core.specs.Date.{IsYmd}
use Rattle.dates.specs.Day.{IsDay}
use Rattle.dates.proofs.DayLemmas.{day_of-new}
use Rattle.cli_days.proofs.range_days.day_of.Goals as goal

pub returns : goal.returns
returns c =
    let passed : to_z w32 (of_z w32 c.from.result) ≡ c.from.result = search rules in
    let year = passed ∙ c.from.ensures in
    day_of-new c.args.year c.args.month c.args.number c.new.result
    (subst (λ y. IsSome c.new.result ↔ IsDay y c.args.month c.args.number) year c.new.ensures.exists)
    (subst (λ y. IfSome c.new.result (IsYmd y (pos c.args.month) (pos c.args.number))) year c.new.ensures.value)
