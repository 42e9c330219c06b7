use Rattle.std.proofs.Common.{◌≡◌, ◌∙◌, List, sym, ap, refl, subst, Some, None, Option, IsSome, IfSome, is_some, string_bytes, String, Global}
use Rattle.std.specs.Prelude.{string_cmp}
use Rattle.std.specs.BTreeMap as tree
use Rattle.std.specs.BTreeMap.{BTreeMap}
use Rattle.std.specs.Cmp.Lexicographic.{slice_cmp}
use Rattle.std.specs.Map.{lookup}
use Rattle.std.specs.Ordering.{nat_cmp}
use Rattle.dates.specs.declared.entry.Entry.{Entry}
use Rattle.std.proofs.lemmas.Map.Text.{btree_map_updates_text}
use Rattle.dates.specs.Entry.{spelling}
use Rattle.store_memory.specs.Slots.{entry_slot, flatten}
use Rattle.store_memory.proofs.HeldLemmas.{Alters, changed, either_result, is_none, stands_for}
use Rattle.store_memory.proofs.calendar_table.CalendarTable.make_room.Goals.{In_ok-clone}
use Rattle.store_memory.proofs.calendar_table.CalendarTable.make_room.Goals as goal

alters : (c : In_ok-clone) (now : BTreeMap (String Global) (Option Entry))
    → tree.Updates string_cmp c.args.self.now.entries now c.in_ok-clone.field-0 (Some None)
    → Alters (string_bytes c.in_ok-clone.field-0) None None (entry_slot c.args.self.now.entries) (entry_slot now)
alters c now updates =
    let old = entry_slot c.args.self.now.entries in
    record {
      before = ap old c.in_ok-clone.ensures.cases ∙ is_none _ (sym c.contains_key.ensures ∙ c.if-not-contains_key.true);
      after = btree_map_updates_text (string_bytes c.in_ok-clone.field-0) c.args.self.now.entries now (Some None) updates;
    }

pub invariant_of-self-then-not-contains_key : goal.invariant_of-self-then-not-contains_key
invariant_of-self-then-not-contains_key c = record {
  are_spelled = λ q.
      let old = entry_slot c.args.self.now.entries q in
      let now = entry_slot c.insert.new.self q in
      let same : flatten now ≡ flatten old =
      either_result c.insert.result _ _ (flatten now ≡ flatten old) c.insert.ensures.updates c.insert.ensures.err
      (λ updates.
      stands_for (alters (goal.at.invariant_of-self-then-not-contains_key c).In_ok-clone c.insert.new.self updates) flatten q refl)
      (λ unchanged.
      ap (λ (es : List (String Global × Option Entry)). flatten
      (lookup (tree.is_at (λ k. slice_cmp nat_cmp q (string_bytes k))) es)) unchanged) in
      subst (λ o. IfSome o (λ x. spelling x ≡ q)) (sym same) (c.args.self.now.are_spelled q);
}

pub returns-in_ok-insert-clause-stays : goal.returns-in_ok-insert-clause-stays
returns-in_ok-insert-clause-stays c = λ q.
    changed (alters (goal.at.returns-in_ok-insert-clause-stays c).In_ok-clone c.insert.new.self c.in_ok-insert.ensures.updates)
    (λ o n. IsSome o → IsSome n) q (λ here. refl) (λ o here. here)

pub returns-in_ok-insert-clause-same : goal.returns-in_ok-insert-clause-same
returns-in_ok-insert-clause-same c = λ q.
    stands_for (alters (goal.at.returns-in_ok-insert-clause-same c).In_ok-clone c.insert.new.self c.in_ok-insert.ensures.updates)
    (λ o. is_some (flatten o)) q refl
