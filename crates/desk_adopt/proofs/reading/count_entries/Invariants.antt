use Rattle.std.proofs.Common.{◌≤◌, ◌*◌, ◌^◌, None, take}
use Rattle.store.specs.Standing.{Reads}
use Rattle.desk_adopt.specs.Surveyed.{AreCounted}
use Rattle.desk_adopt.proofs.reading.count_entries.Given as goal

-- how many entries the calendars so far have, none of which has as many as 2 ^ 64
abbrev pub invariant-loop-calendar : goal.invariant-loop-calendar
invariant-loop-calendar g l =
    let first = g.S.Store.standing l.initial.store in
    record {
      reads : Reads None first (g.S.Store.standing l.store);
      counted : (g.S.Store.standing l.store).is_honest → AreCounted first.content.tables (take l.calendar-index l.calendars) l.count;
      fits : l.count ≤ l.calendar-index * 2 ^ 64;
    }
