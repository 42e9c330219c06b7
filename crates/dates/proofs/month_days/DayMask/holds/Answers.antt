use Rattle.std.proofs.Common.{◌∙◌, sym, ap}
use Rattle.dates.specs.Masks.{has_both, month_days_of}
use Rattle.dates.specs.MonthDays.{in_month_days}
use Rattle.dates.proofs.MaskLemmas.{month_days_of-has}
use Rattle.dates.proofs.month_days.DayMask.holds.Goals as goal

pub returns : goal.returns
returns c =
    let days = c.self.inside.days in
    let left = c.self.inside.days_left in
    c.has_both.ensures ∙ (λ i. has_both (sym c.self.invariant.0 i) (sym c.self.invariant.1 i) c.args.day)
    ∙ month_days_of-has (month_days_of days left) c.args.day c.self.invariant.2
    ∙ ap (λ d. in_month_days d c.args.day) c.self.view_is
