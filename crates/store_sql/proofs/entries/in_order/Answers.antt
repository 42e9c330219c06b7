use Rattle.std.proofs.Common.{◌≡◌, ◌∙◌, ◌||◌, Bool, true, false, map, is_some, refl, ap}
use Rattle.std.specs.Bool.{IsTrue}
use Rattle.std.specs.List.{Contains, list_any}
use Rattle.std.specs.Str.{bytes_eq}
use Rattle.std.proofs.lemmas.Result.{IfOk-weaker}
use Rattle.dates.specs.Entry.{spelling}
use Rattle.store.specs.Listed.{AreTexts}
use Rattle.store_memory.specs.Slots.{flatten, has_text}
use Rattle.store_sql.proofs.EntryLemmas.{texts_among}
use Rattle.store_sql.proofs.entries.in_order.Goals as goal

no_more : (b : Bool) → (b || false) ≡ b
no_more true = refl
no_more false = refl

pub returns : goal.returns
returns c =
    let texts = map spelling c.args.entries.now in
    IfOk-weaker c.list.result (λ list. AreTexts (λ text. IsTrue (has_text c.keep_each.new.self.entries text)) (map spelling list.items))
    (λ list. AreTexts (Contains texts) (map spelling list.items))
    (λ list are. texts_among texts (has_text c.keep_each.new.self.entries) (λ text. c.in_ok-keep_each.ensures text
    ∙ ap (λ o. list_any (bytes_eq text) texts || is_some (flatten o)) (c.new-table.ensures text) ∙ no_more (list_any (bytes_eq text) texts))
    (map spelling list.items) are)
    c.list.ensures
