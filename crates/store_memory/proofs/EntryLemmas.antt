-- Entries that are imported one after the other.
use Rattle.std.proofs.Common.{◌≡◌, ◌&&◌, ◌||◌, ℕ, ◌+◌, ◌<◌, Bool, true, false, List, [], ◌∷◌, drop, get_or, length, map, refl, sym, ap, ◌∙◌}
use Rattle.std.specs.Bool.{IsTrue}
use Rattle.std.specs.Cmp.Lexicographic.{nat_list_eq_equiv}
use Rattle.std.specs.List.{list_any}
use Rattle.std.specs.Str.{bytes_eq}
use Rattle.std.proofs.lemmas.List.{drop_more}
use Rattle.std.proofs.lemmas.Map.Views.{Contains-from_any, list_any-from_Contains}
use Rattle.std.proofs.lemmas.Slice.Eq.{bytes_eq-Decides}
use Rattle.dates.specs.declared.entry.Entry.{Entry}
use Rattle.dates.specs.Entry.{spelling}
use Rattle.store_memory.specs.Items.{item_for}
use Rattle.store.specs.Change.{with_each, with_imported}
use Rattle.store.specs.Listed.{AreTexts}
use Rattle.points.specs.Texts.{Text}

none_more : (here old : Bool) → old ≡ ((here && false) || old)
none_more true old = refl
none_more false old = refl

one_more : (here first rest old : Bool) → ((here && rest) || ((here && first) || old)) ≡ ((here && (first || rest)) || old)
one_more true true true old = refl
one_more true true false old = refl
one_more true false true old = refl
one_more true false false old = refl
one_more false first rest old = refl

pub imported-each : (calendar : Text) (entries : List Entry) (old : Text → Text → Bool) (q text : Text)
    → with_each with_imported (map (item_for calendar) entries) old q text
    ≡ ((bytes_eq calendar q && list_any (bytes_eq text) (map spelling entries)) || old q text)
imported-each calendar [] old q text = none_more (bytes_eq calendar q) (old q text)
imported-each calendar (entry ∷ entries) old q text =
    imported-each calendar entries (with_imported (item_for calendar entry) old) q text
    ∙ one_more (bytes_eq calendar q) (bytes_eq (spelling entry) text) (list_any (bytes_eq text) (map spelling entries)) (old q text)
    ∙ ap (λ b. (bytes_eq calendar q && (b || list_any (bytes_eq text) (map spelling entries))) || old q text)
    (nat_list_eq_equiv.symm (spelling entry) text)

or_after : (first rest old : Bool) → (rest || (first || old)) ≡ ((first || rest) || old)
or_after true true old = refl
or_after true false old = refl
or_after false true old = refl
or_after false false old = refl

-- one entry more stands, of those that were to come
pub kept-more : (q : Text) (entries : List Entry) (i : ℕ) (entry : Entry) (old now all : Bool) → i < length entries
    → entry ≡ get_or entries i entry → now ≡ (bytes_eq (spelling entry) q || old)
    → (list_any (bytes_eq q) (map spelling (drop i entries)) || old) ≡ all
    → (list_any (bytes_eq q) (map spelling (drop (i + 1) entries)) || now) ≡ all
kept-more q entries i entry old now all below is kept so_far =
    let cut : drop i entries ≡ entry ∷ drop (i + 1) entries =
    drop_more entries i entry below ∙ ap (λ (e : Entry). e ∷ drop (i + 1) entries) (sym is) in
    let rest = list_any (bytes_eq q) (map spelling (drop (i + 1) entries)) in
    ap (λ b. rest || b) (kept ∙ ap (λ b. b || old) (nat_list_eq_equiv.symm (spelling entry) q))
    ∙ or_after (bytes_eq q (spelling entry)) rest old
    ∙ sym (ap (λ list. list_any (bytes_eq q) (map spelling list) || old) cut) ∙ so_far

either_way : (a b : Bool) → (a ≡ true → b ≡ true) → (b ≡ true → a ≡ true) → a ≡ b
either_way true b there back = sym (there refl)
either_way false true there back = back refl
either_way false false there back = refl

-- the texts that are listed are those of which something holds
pub texts-any : (holds : Text → Bool) (texts : List Text) → AreTexts (λ text. IsTrue (holds text)) texts → (text : Text)
    → list_any (bytes_eq text) texts ≡ holds text
texts-any holds texts are text = either_way _ _
    (λ is. (are.each text).0 (Contains-from_any (λ x y same. (bytes_eq-Decides x y).0 same) text texts is))
    (λ is. list_any-from_Contains nat_list_eq_equiv text texts ((are.each text).1 is))
