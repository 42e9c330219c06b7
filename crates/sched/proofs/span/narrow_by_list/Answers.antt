use Rattle.std.proofs.Common.{◌∙◌, Some, None, arith, refl, sym}
use Rattle.sched.specs.DayList.{times_of}
use Rattle.sched.proofs.AroundLemmas.{IsLastTimeBy-latest}
use Rattle.sched.proofs.SpanLemmas.{IsSpanAt-list}
use Rattle.sched.proofs.span.narrow_by_list.Goals as goal

pub returns-in-Some-clause-ends : goal.returns-in-Some-clause-ends
returns-in-Some-clause-ends c = λ times was.
    IsSpanAt-list times (times_of c.args.list.now) c.args.time c.args.span.now
    (record { day = c.args.span.now.day; first = c.first_from-span.result; last = c.last_before-span.result }) was
    (Some c.in-Some.element.time) c.around-latest.result.1
    (IsLastTimeBy-latest c.args.list.now c.args.time (Some c.in-Some.element) (sym c.in-Some.is ∙ c.around-latest.ensures.latest))
    c.around-latest.ensures.next (c.first_from-span.ensures.rises, c.first_from-span.ensures.is)
    (c.last_before-span.ensures.falls, c.last_before-span.ensures.is)

pub returns-in-None-clause-ends : goal.returns-in-None-clause-ends
returns-in-None-clause-ends c = λ times was.
    IsSpanAt-list times (times_of c.args.list.now) c.args.time c.args.span.now
    (record { day = c.args.span.now.day; first = c.args.span.now.first; last = c.last_before-span.result }) was
    None c.around-latest.result.1
    (IsLastTimeBy-latest c.args.list.now c.args.time None (sym c.in-None.is ∙ c.around-latest.ensures.latest))
    c.around-latest.ensures.next (omega arith, refl) (c.last_before-span.ensures.falls, c.last_before-span.ensures.is)
