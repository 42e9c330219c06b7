use Rattle.std.proofs.Common.{◌≡◌, false, take, None}
use Rattle.std.specs.List.{list_any}
use Rattle.store.specs.Asked.Asked.{EntriesOf}
use Rattle.store.specs.Standing.{Reads}
use Rattle.desk.proofs.opening.read_entries.Given as goal

-- nothing was done but reads, and what was read so far can stand
abbrev pub invariant-loop-calendar : goal.invariant-loop-calendar
invariant-loop-calendar g l =
    let first = g.S.Store.standing l.fn.store in
    let here = g.S.Store.standing l.store in
    record {
      reads : Reads None first here;
      stood : here.is_honest → list_any (λ calendar. first.cannot_stand (EntriesOf calendar.name)) (take l.calendar-index l.calendars) ≡ false;
    }
