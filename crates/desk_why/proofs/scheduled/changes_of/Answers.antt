use Rattle.std.proofs.Common.{◌≡◌, ◌∙◌, ◌+◌, List, [], ◌∷◌, ◌++◌, take, sym, ap, arith}
use Rattle.std.specs.List.{filter_map}
use Rattle.std.proofs.lemmas.List.{take_more}
use Rattle.building.specs.declared.named_schedule.NamedSchedule.{NamedSchedule}
use Rattle.desk_settling.specs.Turns.{now_at}
use Rattle.desk_why.specs.declared.scheduled.ScheduledChange.{ScheduledChange}
use Rattle.desk_why.specs.NextChanges.{change_at}
use Rattle.desk_why.proofs.NextLemmas.{changes-more}
use Rattle.desk_why.proofs.scheduled.changes_of.Goals as goal

pub loop-schedule-preserved : goal.loop-schedule-preserved
loop-schedule-preserved c =
    let all = c.args.schedules.now in
    let at = c.loop-schedule.schedule-index in
    let s = c.schedule-item.result in
    let f = change_at (now_at c.args.calendars.now c.args.local.now) c.args.point.now in
    let more : take (at + 1) all ≡ take at all ++ s ∷ [] =
    take_more all at s (omega (arith, c.loop-schedule-test.true)) ∙ ap (λ (x : NamedSchedule). take at all ++ x ∷ []) (sym c.schedule-item.is) in
    let slice = c.as_slice.result.now in
    c.in_ok-extend_from_slice.ensures.items
    ∙ (ap (λ (changes : List ScheduledChange). changes ++ slice) c.loop-schedule.invariant
    ∙ (changes-more f (take at all) s c.in_ok-change.change slice c.in_ok-change.ensures c.as_slice.ensures
    ∙ ap (filter_map f) (sym more)))
