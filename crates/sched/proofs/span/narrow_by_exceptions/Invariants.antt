use Rattle.std.proofs.Common.{◌≡◌, ◌++◌, ℕ, List, None, drop, option_copied, take}
use Rattle.std.specs.List.{flat_map}
use Rattle.sched.specs.Exceptions.{gives_way_to_lower, speaks}
use Rattle.sched.specs.Named.{exception_times}
use Rattle.sched.specs.Spans.{IsSpanAt}
use Rattle.sched.proofs.ChosenLemmas.{best_from}
use Rattle.sched.proofs.span.narrow_by_exceptions.Given as goal

abbrev pub invariant-loop-exception : goal.invariant-loop-exception
invariant-loop-exception l = record {
  best : best_from (speaks l.calendars l.day l.time) gives_way_to_lower (option_copied l.best) (drop l.exception-index l.exceptions)
      ≡ best_from (speaks l.calendars l.day l.time) gives_way_to_lower None l.exceptions;
  day : l.span.day ≡ l.fn.span.day;
  ends : (times : List ℕ) → IsSpanAt times l.time l.fn.span
      → IsSpanAt (times ++ flat_map (exception_times l.calendars l.day) (take l.exception-index l.exceptions)) l.time l.span;
}
