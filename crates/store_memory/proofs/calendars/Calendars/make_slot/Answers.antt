use Rattle.std.proofs.Common.{sym, ap, Some, IsSome, is_some}
use Rattle.std.specs.BTreeMap as tree
use Rattle.std.specs.Cmp.Lexicographic.{slice_cmp}
use Rattle.std.specs.Ordering.{nat_cmp}
use Rattle.store_memory.specs.Held.{calendar_at, text_slot}
use Rattle.store_memory.specs.Slots.{flatten}
use Rattle.store_memory.proofs.HeldLemmas.{Alters, by_bytes, changed, stands_for}
use Rattle.store_memory.proofs.calendars.Calendars.make_slot.Goals.{After-make_room}
use Rattle.store_memory.proofs.calendars.Calendars.make_slot.Goals as goal

alters : (c : After-make_room) → Alters c.args.calendar.now (Some c.in-Some.table.now) c.make_room.new.self (calendar_at c.args.self.now)
    (tree.get (slice_cmp nat_cmp) (c.get_mut.follows.lender c.make_room.new.self))
alters c = record {
  before = sym c.in-Some.ensures.value;
  after = λ q. by_bytes _ _ c.args.calendar.now q _
      (((c.get_mut.follows.holds c.make_room.new.self).3 (ap is_some (sym c.in-Some.ensures.value))).0 q);
}

pub returns-in-Some-clause-stays : goal.returns-in-Some-clause-stays
returns-in-Some-clause-stays c = λ q text.
    changed (alters (goal.at.returns-in-Some-clause-stays c).After-make_room) (λ o n. IsSome (text_slot o text) → IsSome (text_slot n text)) q
    (c.make_room.ensures.stays text) (λ o here. here)

pub returns-in-Some-clause-same : goal.returns-in-Some-clause-same
returns-in-Some-clause-same c = λ q text.
    stands_for (alters (goal.at.returns-in-Some-clause-same c).After-make_room) (λ o. is_some (flatten (text_slot o text))) q
    (c.make_room.ensures.same text)
