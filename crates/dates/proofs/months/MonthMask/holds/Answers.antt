use Rattle.std.proofs.Common.{◌∙◌, sym, ap}
use Rattle.dates.specs.Masks.{has_bit, months_of}
use Rattle.dates.specs.Months.{in_months}
use Rattle.dates.proofs.MaskLemmas.{months_of-has}
use Rattle.dates.proofs.months.MonthMask.holds.Goals as goal

pub returns : goal.returns
returns c =
    c.has_bit.ensures ∙ ap (has_bit c.self.inside.bits) c.month.ensures.value
    ∙ ap (λ bits. has_bit bits c.args.day.month) (sym c.self.invariant.0)
    ∙ months_of-has (months_of c.self.inside.bits) c.args.day c.self.invariant.1
    ∙ ap (λ m. in_months m c.args.day) c.self.view_is
