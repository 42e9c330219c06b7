use Rattle.std.proofs.Common.{◌∙◌, sym, ap, subst}
use Rattle.dates.specs.Masks.{day_mask, days_left_mask, month_days_of}
use Rattle.dates.specs.MonthDays.{AreMonthDays}
use Rattle.dates.proofs.MaskLemmas.{month_days_of-mask}
use Rattle.dates.proofs.month_days.DayMask.of.Goals as goal

pub invariant_of-result : goal.invariant_of-result
invariant_of-result c =
    let days = c.day_bits-days.ensures in
    let left = c.days_left_bits-days_left.ensures in
    let named = (λ i. month_days_of (days.value i) (left i)) ∙ month_days_of-mask c.args.named days.range in
    (ap day_mask named ∙ sym days.value, ap days_left_mask named ∙ sym left, subst AreMonthDays (sym named) days.range)

pub returns : goal.returns
returns c =
    let days = c.day_bits-days.ensures in
    let left = c.days_left_bits-days_left.ensures in
    (λ i. month_days_of (days.value i) (left i)) ∙ month_days_of-mask c.args.named days.range
