use Rattle.std.proofs.Common.{◌≡◌, false, take, None}
use Rattle.std.specs.List.{list_any}
use Rattle.store.specs.Asked.Asked.{NextOf}
use Rattle.store.specs.Standing.{Reads}
use Rattle.store.proofs.next_numbers.read_nexts.Given as goal

-- nothing was done but reads, and what was read so far can stand
abbrev pub invariant-loop-panel : goal.invariant-loop-panel
invariant-loop-panel g l =
    let first = g.S.Store.standing l.fn.store in
    let here = g.S.Store.standing l.store in
    record {
      reads : Reads None first here;
      stood : here.is_honest → list_any (λ panel. first.cannot_stand (NextOf panel)) (take l.panel-index l.panels) ≡ false;
    }
