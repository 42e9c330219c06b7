use Rattle.std.proofs.Common.{◌≡◌, false, take, None}
use Rattle.std.specs.List.{list_any}
use Rattle.store.specs.Asked.Asked.{ShownBy}
use Rattle.store.specs.Standing.{Reads}
use Rattle.desk_adopt.proofs.reading.read_shown.Given as goal

-- nothing was done but reads, and what was read so far can stand
abbrev pub invariant-loop-schedule : goal.invariant-loop-schedule
invariant-loop-schedule g l =
    let first = g.S.Store.standing l.fn.store in
    let here = g.S.Store.standing l.store in
    record {
      reads : Reads None first here;
      stood : here.is_honest → list_any (λ schedule. first.cannot_stand (ShownBy schedule)) (take l.schedule-index l.schedules) ≡ false;
    }
