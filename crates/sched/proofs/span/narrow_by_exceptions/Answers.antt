use Rattle.std.proofs.Common.{◌∙◌, ◌++◌, ◌<◌, ◌≤◌, ℕ, List, ap, arith, if◌then◌else◌, length, option_copied, subst, sym, take}
use Rattle.std.proofs.lemmas.List.{take_all}
use Rattle.std.specs.List.{flat_map}
use Rattle.sched.specs.Exceptions.{exception_now, gives_way_to_lower, lower_first, speaks}
use Rattle.sched.specs.Named.{exception_times}
use Rattle.sched.specs.Spans.{IsSpanAt}
use Rattle.sched.proofs.ChosenLemmas.{chosen-best_from}
use Rattle.sched.proofs.ExceptionLemmas.{best-last, best-step, settles_lower}
use Rattle.sched.proofs.SpanLemmas.{exceptions-more}
use Rattle.sched.proofs.span.narrow_by_exceptions.Goals as goal

pub loop-exception-preserved : goal.loop-exception-preserved
loop-exception-preserved c =
    let list = c.args.exceptions.now in
    let i = c.loop-exception.exception-index in
    let f = exception_times c.args.calendars.now c.args.day in
    let within : i < length list = omega (arith, c.loop-exception-test.true) in
    let passes = speaks c.args.calendars.now c.args.day c.args.time in
    record {
      best =
          best-step passes list i c.exception-item.result within c.exception-item.is (option_copied c.loop-exception.best)
          (option_copied c.counting-best.result)
          (c.counting-best.ensures
          ∙ ap (λ b. if b then lower_first (option_copied c.loop-exception.best) c.exception-item.result else option_copied c.loop-exception.best)
          c.narrow_by_exception-speaks.ensures.speaks)
          c.loop-exception.invariant.best;
      day = c.narrow_by_exception-speaks.ensures.day ∙ c.loop-exception.invariant.day;
      ends = λ times was.
          subst (λ (l : List ℕ). IsSpanAt l c.args.time c.narrow_by_exception-speaks.new.span)
          (exceptions-more f times list i c.exception-item.result within c.exception-item.is)
          (c.narrow_by_exception-speaks.ensures.ends (times ++ flat_map f (take i list)) (c.loop-exception.invariant.ends times was));
    }

pub returns-clause-ends : goal.returns-clause-ends
returns-clause-ends c = λ times was.
    let list = c.args.exceptions.now in
    subst (λ l. IsSpanAt (times ++ flat_map (exception_times c.args.calendars.now c.args.day) l) c.args.time c.loop-exception.span)
    (take_all c.loop-exception.exception-index list (omega (arith, c.loop-exception-test.false)))
    (c.loop-exception.invariant.ends times was)

pub returns-clause-now : goal.returns-clause-now
unfolding exception_now
returns-clause-now c =
    let list = c.args.exceptions.now in
    let passes = speaks c.args.calendars.now c.args.day c.args.time in
    let ended : length list ≤ c.loop-exception.exception-index = omega (arith, c.loop-exception-test.false) in
    best-last passes list c.loop-exception.exception-index ended (option_copied c.loop-exception.best) c.loop-exception.invariant.best
    ∙ sym (chosen-best_from passes gives_way_to_lower settles_lower list)
