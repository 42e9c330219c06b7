use Rattle.std.proofs.Common.{◌∙◌, sym, ap, None, IsSome, is_some}
use Rattle.std.specs.BTreeMap as tree
use Rattle.std.specs.Cmp.Lexicographic.{slice_cmp}
use Rattle.std.specs.Ordering.{nat_cmp}
use Rattle.store_memory.specs.Held.{calendar_at, text_slot}
use Rattle.store_memory.specs.Slots.{flatten}
use Rattle.store_memory.proofs.HeldLemmas.{Alters, by_bytes, changed, is_none, stands_for}
use Rattle.store_memory.proofs.calendars.Calendars.make_table.Goals.{In_ok-insert}
use Rattle.store_memory.proofs.calendars.Calendars.make_table.Goals as goal

alters : (c : In_ok-insert) → Alters c.args.calendar.now None c.new.result (calendar_at c.args.self.now)
    (tree.get (slice_cmp nat_cmp) c.insert.new.self)
alters c = record {
  before = is_none _ (sym c.contains_key.ensures ∙ c.if-not-contains_key.true);
  after = λ q. by_bytes _ _ c.args.calendar.now q _ (c.in_ok-insert.ensures.updates.0 q);
}

pub returns-in_ok-insert-clause-stays : goal.returns-in_ok-insert-clause-stays
returns-in_ok-insert-clause-stays c = λ q text.
    changed (alters (goal.at.returns-in_ok-insert-clause-stays c).In_ok-insert)
    (λ o n. IsSome (text_slot o text) → IsSome (text_slot n text)) q
    (λ here. ap is_some (c.new.ensures text) ∙ here) (λ o here. here)

pub returns-in_ok-insert-clause-same : goal.returns-in_ok-insert-clause-same
returns-in_ok-insert-clause-same c = λ q text.
    stands_for (alters (goal.at.returns-in_ok-insert-clause-same c).In_ok-insert) (λ o. is_some (flatten (text_slot o text))) q
    (ap (λ o. is_some (flatten o)) (c.new.ensures text))
