use Rattle.std.proofs.Common.{◌≡◌, ◌∙◌, ◌||◌, List, sym, ap, subst, Some, Option, IfSome, is_some, string_bytes, String, Global}
use Rattle.std.specs.BTreeMap as tree
use Rattle.std.specs.Cmp.Lexicographic.{slice_cmp}
use Rattle.std.specs.Map.{lookup}
use Rattle.std.specs.Ordering.{nat_cmp}
use Rattle.std.specs.Str.{bytes_eq}
use Rattle.dates.specs.declared.entry.Entry.{Entry}
use Rattle.std.proofs.lemmas.Map.Text.{btree_map_updates_text}
use Rattle.dates.specs.Entry.{spelling}
use Rattle.store_memory.specs.Slots.{flatten, has_text}
use Rattle.store_memory.proofs.HeldLemmas.{either_result, put_at, replaced, true_or}
use Rattle.store_memory.proofs.calendar_table.CalendarTable.keep.Goals as goal

pub invariant_of-self : goal.invariant_of-self
invariant_of-self c = record {
  are_spelled = λ q.
      let entry = c.args.entry.now in
      let bs = string_bytes c.in_ok-text.text in
      let old = tree.get_by_text c.args.self.now.entries q in
      let now = tree.get_by_text c.insert.new.self q in
      either_result c.insert.result _ _ (IfSome (flatten now) (λ x. spelling x ≡ q)) c.insert.ensures.updates c.insert.ensures.err
      (λ updates. put_at (λ o. IfSome (flatten o) (λ x. spelling x ≡ q)) (Some entry) bs q old now
      (btree_map_updates_text bs c.args.self.now.entries c.insert.new.self (Some (Some entry)) updates q)
      (λ same. sym c.in_ok-text.ensures.value ∙ same) (c.args.self.now.are_spelled q))
      (λ unchanged. subst (λ (es : List (String Global × Option Entry)).
      IfSome (flatten (lookup (tree.is_at (λ k. slice_cmp nat_cmp q (string_bytes k))) es)) (λ x. spelling x ≡ q)) (sym unchanged)
      (c.args.self.now.are_spelled q));
}

pub returns : goal.returns
returns c = λ q.
    let entry = c.args.entry.now in
    let bs = string_bytes c.in_ok-text.text in
    let old = tree.get_by_text c.args.self.now.entries q in
    let now = tree.get_by_text c.insert.new.self q in
    replaced (λ o. is_some (flatten o)) (bytes_eq bs q) (Some entry) old now
    (btree_map_updates_text bs c.args.self.now.entries c.insert.new.self (Some (Some entry)) c.in_ok-insert.ensures.updates q)
    ∙ true_or (bytes_eq bs q) (has_text c.args.self.now.entries q)
    ∙ ap (λ text. bytes_eq text q || has_text c.args.self.now.entries q) c.in_ok-text.ensures.value
