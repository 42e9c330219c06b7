use Rattle.std.proofs.Common.{◌≡◌, ◌++◌, None, List, drop, map}
use Rattle.desk_settling.specs.Calendars.{Tells, calendars_of, with_items, with_texts}
use Rattle.sched.specs.Calendar.{hold_on}
use Rattle.store.specs.Standing.{Reads}
use Rattle.points.specs.Texts.{Text}
use Rattle.desk_settling.proofs.today.calendars_today.Given as goal

-- the calendars so far, and those of the rest
abbrev pub invariant-loop-calendar : goal.invariant-loop-calendar
invariant-loop-calendar g l =
    let first = g.S.Store.standing l.initial.store in
    record {
      reads : Reads None first (g.S.Store.standing l.store);
      today : (g.S.Store.standing l.store).is_honest → (imported : Text → List Text) → Tells first.content.tables.imported imported
          → hold_on l.day l.today.items ++ hold_on l.day
          (map (with_texts (with_items imported l.items)) (drop l.calendar-index l.building.calendars))
          ≡ hold_on l.day (calendars_of l.building (with_items imported l.items));
    }
