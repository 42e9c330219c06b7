use Rattle.std.proofs.Common.{◌≡◌, ◌∙◌, ◌++◌, List, append-nil, get_or, sym, ap, is_some, map, string_bytes, subst, IfSome}
use Rattle.std.specs.Bool.{IsTrue}
use Rattle.std.specs.BTreeMap.{get_by_text}
use Rattle.dates.specs.declared.entry.Entry.{Entry}
use Rattle.dates.specs.Entry.{spelling}
use Rattle.store.specs.Listed.{AreTexts}
use Rattle.store_memory.specs.Slots.{IsStanding, flatten, has_text, standing_keys}
use Rattle.store_memory.proofs.TextLemmas.{AreTexts-by, AreTexts-standing, kept, standing_some, texts-kept}
use Rattle.store_memory.proofs.calendar_table.CalendarTable.list.Goals as goal

pub returns : goal.returns
returns c =
    let m = c.args.self.now.entries in
    let whole : c.loop-slot.list.items ≡ kept m.entries =
    sym (append-nil c.loop-slot.list.items) ∙ ap (λ rest. c.loop-slot.list.items ++ kept rest) (sym c.in-None.ensures.steps.0)
    ∙ c.loop-slot.invariant in
    let spelled : map spelling (kept m.entries) ≡ map string_bytes (standing_keys is_some m.entries) =
    texts-kept string_bytes spelling m.entries
    (λ k d below. subst (λ o. IfSome (flatten o) (λ x. spelling x ≡ string_bytes (get_or m.entries k d).0))
    (c.into_iter-slot-iterator.ensures.into_iter_gives.6 k d below)
    (c.args.self.now.are_spelled (string_bytes (get_or m.entries k d).0))) in
    let texts = AreTexts-standing string_bytes is_some m.entries c.into_iter-slot-iterator.ensures.into_iter_gives.5 in
    subst (AreTexts (λ text. IsTrue (has_text m text))) (sym spelled ∙ ap (λ (list : List Entry). map spelling list) (sym whole))
    (AreTexts-by (λ text. IsStanding is_some (get_by_text m text)) (λ text. IsTrue (has_text m text))
    (map string_bytes (standing_keys is_some m.entries))
    (λ text. standing_some (get_by_text m text)) texts)
