use Rattle.std.proofs.Common.{◌≡◌, ◌++◌, None, drop}
use Rattle.std.specs.Bool.{IsTrue}
use Rattle.std.specs.List.{All, flat_map, list_all}
use Rattle.building.specs.declared.named_schedule.NamedSchedule.{NamedSchedule}
use Rattle.store.specs.Change.{IsPlace}
use Rattle.store.specs.Standing.{Reads}
use Rattle.points.specs.Priority.{is_write_priority}
use Rattle.desk_settling.specs.Kept.{HasSpans}
use Rattle.desk_settling.specs.Rests.{HaveRested}
use Rattle.desk_settling.specs.Settled.{cleared_by, put_by, shown_by}
use Rattle.desk_settling.specs.Turns.{now_at}
use Rattle.desk_settling.proofs.settlement.settle_each.Given as goal

-- what was written so far, and what the rest of the schedules write
abbrev pub invariant-loop-index : goal.invariant-loop-index
invariant-loop-index g l =
    let first = g.S.Store.standing l.initial.store in
    let now = now_at l.initial.kept.calendars.items l.local in
    let shown = first.content.tables.shown in
    let rest = drop l.index l.schedules in
    let rested = HaveRested l.initial.kept.calendars.items l.local.day shown l.schedules l.since in
    record {
      reads : Reads None first (g.S.Store.standing l.store);
      priorities : IsTrue (list_all (λ (schedule : NamedSchedule). is_write_priority schedule.priority) rest);
      cleared : (g.S.Store.standing l.store).is_honest → rested → l.all.cleared.items ++ flat_map (cleared_by now shown) rest
          ≡ flat_map (cleared_by now shown) l.schedules;
      put : (g.S.Store.standing l.store).is_honest → rested
          → l.all.put.items ++ flat_map (put_by now shown) rest ≡ flat_map (put_by now shown) l.schedules;
      changes_shown : (g.S.Store.standing l.store).is_honest → rested → l.all.shown.items ++ flat_map (shown_by now shown) rest
          ≡ flat_map (shown_by now shown) l.schedules;
      placed_cleared : All IsPlace l.all.cleared.items;
      placed_put : All IsPlace l.all.put.items;
      spans : HasSpans l.schedules l.kept;
      day : l.kept.day ≡ l.initial.kept.day;
      calendars : l.kept.calendars ≡ l.initial.kept.calendars;
    }
