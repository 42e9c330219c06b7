use Rattle.std.proofs.Common.{List, sym, subst}
use Rattle.jiff_core.specs.declared.civil.date.Date.{Date}
use Rattle.sched.specs.declared.calendar.Calendar.{Calendar}
use Rattle.desk_settling.specs.Kept.{Stands}
use Rattle.desk_settling.specs.declared.kept.KeptSpan.{KeptSpan}
use Rattle.desk_settling.proofs.KeptLemmas.{keeps_spans}
use Rattle.desk_settling.proofs.kept.KeptDay.value_at.Goals as goal

-- the span that was evaluated stands over the calendars of the day
pub returns-clause-spans : goal.returns-clause-spans
returns-clause-spans c = λ schedules same_day here each.
    let found = c.value_span-value.result in
    let kept : KeptSpan = record { span = found.1; value = found.0 } in
    let schedule = c.args.schedule.now in
    keeps_spans schedules c.args.self.now c.keep.new.self c.args.index schedule kept c.keep.ensures.day c.keep.ensures.calendars
    c.keep.ensures.spans here
    (subst (λ (day : Date). Stands c.args.self.now.calendars.items day schedule.schedule kept) (sym same_day)
    (subst (λ (calendars : List Calendar). Stands calendars c.args.local.day schedule.schedule kept) c.as_slice-calendars.ensures.value
    c.value_span-value.ensures.stands))
    each
