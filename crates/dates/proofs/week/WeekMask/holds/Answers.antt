use Rattle.std.proofs.Common.{◌∙◌, sym, ap}
use Rattle.dates.specs.Masks.{has_both, weeks_of}
use Rattle.dates.specs.Week.{in_weeks}
use Rattle.dates.proofs.MaskLemmas.{weeks_of-has}
use Rattle.dates.proofs.week.WeekMask.holds.Goals as goal

pub returns : goal.returns
returns c =
    let days = c.self.inside.days in
    let left = c.self.inside.days_left in
    c.has_both.ensures ∙ (λ i. has_both (sym c.self.invariant.0 i) (sym c.self.invariant.1 i) c.args.day)
    ∙ weeks_of-has (weeks_of days left) c.args.day ∙ ap (λ w. in_weeks w c.args.day) c.self.view_is
