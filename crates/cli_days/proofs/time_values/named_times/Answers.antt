use Rattle.std.proofs.Common.{◌∙◌, ap}
use Rattle.std.proofs.Math.Dec.{eqb}
use Rattle.std.proofs.lemmas.List.Filters.{dedup_is}
use Rattle.sched.specs.declared.time.TheConstants.{HUNDREDTHS_A_DAY}
use Rattle.sched.specs.DayList.{times_of}
use Rattle.cli_days.specs.TimeValues.{in_order}
use Rattle.cli_days.proofs.OrderLemmas.{sorted-in_order}
use Rattle.cli_days.proofs.time_values.named_times.Goals as goal

pub returns : goal.returns
returns c =
    sorted-in_order HUNDREDTHS_A_DAY c.in_ok-times.times.items c.sort.new.self.items c.dedup.new.self.items c.in_ok-times.ensures.of_a_day
    c.in_ok-sort.ensures.permutation c.in_ok-sort.ensures.sorted (dedup_is eqb _ _ c.dedup.ensures.filtered)
    ∙ ap (in_order HUNDREDTHS_A_DAY) (c.in_ok-times.ensures.times ∙ ap times_of c.as_slice.ensures)
