use Rattle.std.proofs.Common.{◌≡◌, ◌∙◌, ◌++◌, List, [], ◌∷◌, arith, rules, subst}
use Rattle.std.specs.List.{flat_map}
use Rattle.sched.specs.declared.day_list.TimeValue.{TimeValue}
use Rattle.sched.specs.declared.exception.Exception.{Exception}
use Rattle.sched.specs.DayList.{times_of}
use Rattle.sched.specs.Named.{exception_times, named_times}
use Rattle.sched.specs.Schedule.{schedule_value}
use Rattle.sched.specs.Spans.{IsSpanAt}
use Rattle.sched.proofs.SpanLemmas.{IsSpanAt-none, value-stands}
use Rattle.sched.proofs.schedule.Schedule.value_span.Goals as goal

spans : (c : goal.After-or-2)
    → IsSpanAt (named_times c.args.self.now c.args.calendars.now c.args.day) c.args.time c.narrow_by_exceptions-exception.new.span
spans c =
    let time = c.args.time in
    let none = IsSpanAt-none c.args.day time (omega (arith, c.hundredths.ensures.value, c.hundredths.ensures.within)) in
    let weekday = c.narrow_by_list-weekday.ensures.ends (0 ∷ []) none in
    let all = c.narrow_by_exceptions-exception.ensures.ends _ weekday in
    let span = c.narrow_by_exceptions-exception.new.span in
    let exceptions = flat_map (exception_times c.args.calendars.now c.args.day) in
    subst (λ (l : List TimeValue). IsSpanAt (0 ∷ (times_of l ++ exceptions c.args.self.now.exceptions)) time span)
    c.weekday_list.ensures
    (subst (λ (l : List Exception). IsSpanAt (0 ∷ (times_of c.weekday_list.result.now ++ exceptions l)) time span) c.as_slice.ensures all)

value_is : (c : goal.After-or-2) → schedule_value c.args.self.now c.args.calendars.now c.args.day c.args.time ≡ c.or-2.result
unfolding schedule_value
value_is c = search rules

pub returns-clause-ends : goal.returns-clause-ends
returns-clause-ends c = spans c

pub returns-clause-stands : goal.returns-clause-stands
returns-clause-stands c = λ x from within.
    value-stands c.args.self.now c.args.calendars.now c.args.day c.args.time c.narrow_by_exceptions-exception.new.span (spans c) x from within
    ∙ value_is c
