use Rattle.std.proofs.Common.{◌∙◌, sym, ap, subst}
use Rattle.dates.specs.Masks.{month_mask, months_of}
use Rattle.dates.specs.Months.{AreMonths}
use Rattle.dates.proofs.MaskLemmas.{months_of-mask}
use Rattle.dates.proofs.months.MonthMask.of.Goals as goal

pub invariant_of-result : goal.invariant_of-result
invariant_of-result c =
    let bits = c.month_bits-bits.ensures in
    let named = ap months_of bits.value ∙ months_of-mask c.args.months bits.range in
    (ap month_mask named ∙ sym bits.value, subst AreMonths (sym named) bits.range)

pub returns : goal.returns
returns c =
    let bits = c.month_bits-bits.ensures in
    ap months_of bits.value ∙ months_of-mask c.args.months bits.range
