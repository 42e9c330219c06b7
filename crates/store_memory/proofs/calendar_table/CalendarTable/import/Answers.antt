use Rattle.std.proofs.Common.{◌≡◌, ◌∙◌, ◌||◌, sym, ap, refl, true, Some, IsSome, IfSome, is_some, string_bytes}
use Rattle.std.specs.BTreeMap as tree
use Rattle.std.specs.Str.{bytes_eq}
use Rattle.std.proofs.lemmas.Map.Text.{btree_map_updates_text}
use Rattle.dates.specs.Entry.{spelling}
use Rattle.store_memory.specs.Slots.{entry_slot, flatten, has_text}
use Rattle.store_memory.proofs.HeldLemmas.{Alters, changed, changed_at, true_or, written}
use Rattle.store_memory.proofs.calendar_table.CalendarTable.import.Goals.{In-Some}
use Rattle.store_memory.proofs.calendar_table.CalendarTable.import.Goals as goal

alters : (c : In-Some) → Alters (string_bytes c.args.spelled.now.text) (Some c.in-Some.slot.now) (Some c.args.spelled.now.item.entry)
    (entry_slot c.args.self.now.entries) (tree.get_by_text (c.get_mut.follows.lender (Some c.args.spelled.now.item.entry)))
alters c =
    let made = Some c.args.spelled.now.item.entry in
    record {
      before = sym c.in-Some.ensures.value;
      after = btree_map_updates_text (string_bytes c.args.spelled.now.text) c.args.self.now.entries (c.get_mut.follows.lender made) (Some made)
          ((c.get_mut.follows.holds made).3 (ap is_some (sym c.in-Some.ensures.value)));
    }

pub invariant_of-self : goal.invariant_of-self
invariant_of-self c = record {
  are_spelled = λ q.
      changed_at (alters (goal.at.invariant_of-self c).In-Some)
      (λ o n. IfSome (flatten o) (λ x. spelling x ≡ q) → IfSome (flatten n) (λ x. spelling x ≡ q)) q
      (λ same was. sym c.args.spelled.now.spells ∙ same) (λ o was. was) (c.args.self.now.are_spelled q);
}

pub returns-in-Some-clause-has : goal.returns-in-Some-clause-has
returns-in-Some-clause-has c = λ q.
    let entries = c.args.self.now.entries in
    written (alters (goal.at.returns-in-Some-clause-has c).In-Some) (λ o. is_some (flatten o)) (λ has. true) q refl
    ∙ true_or (bytes_eq (string_bytes c.args.spelled.now.text) q) (has_text entries q)
    ∙ ap (λ text. bytes_eq text q || has_text entries q) c.args.spelled.now.spells

pub returns-in-Some-clause-stays : goal.returns-in-Some-clause-stays
returns-in-Some-clause-stays c = λ q.
    changed (alters (goal.at.returns-in-Some-clause-stays c).In-Some) (λ o n. IsSome o → IsSome n) q (λ here. refl) (λ o here. here)
