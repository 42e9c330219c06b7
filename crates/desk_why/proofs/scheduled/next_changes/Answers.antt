use Rattle.std.proofs.Common.{◌≡◌, ◌∙◌, List, Option, ℤ, Some, ap, sym, subst}
use Rattle.std.specs.List.{filter_map}
use Rattle.deliveries.specs.Machine.{local_of}
use Rattle.store_memory.specs.Memory.{standing_of}
use Rattle.sched.specs.declared.calendar.Calendar.{Calendar}
use Rattle.desk_settling.specs.Calendars.{Tells}
use Rattle.desk_settling.specs.Turns.{now_at}
use Rattle.store.specs.Standing.{Content}
use Rattle.desk_why.specs.NextChanges.{change_at}
use Rattle.desk_why.proofs.NextLemmas.{changes-now}
use Rattle.desk_why.proofs.scheduled.next_changes.Goals as goal

pub returns-clause-changes : goal.returns-clause-changes
returns-clause-changes c = λ imported tells.
    let b = c.args.building.now in
    let local = c.in-Some.local in
    let schedules = c.schedules-schedules.result.now in
    let kept = c.in_ok-last.ensures.reads.kept tt (λ e. cc) in
    let last = (standing_of c.args.store.now).content.tables.last_tick in
    let at : Some local ≡ local_of b last =
    c.in-Some.ensures ∙ ap (λ (moment : Option ℤ). local_of b moment) (c.in_ok-last.ensures.value tt) in
    let reported = subst (λ (content : Content). Tells content.tables.imported imported) (sym kept) tells in
    changes-now b imported c.in_ok-calendars.calendars.items schedules local last c.args.point.now c.in_ok-changes_of.field-0.items
    c.schedules-schedules.ensures.schedules at (c.in_ok-calendars.ensures.today tt imported reported)
    (c.in_ok-changes_of.ensures
    ∙ ap (λ (cs : List Calendar). filter_map (change_at (now_at cs local) c.args.point.now) schedules) c.as_slice.ensures.value)
