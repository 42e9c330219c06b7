-- Entries that are imported one after the other.
use Rattle.std.proofs.Common.{◌≡◌, ◌∙◌, ◌&&◌, ◌||◌, ◌++◌, Bool, true, false, cond, List, [], ◌∷◌, map, refl, sym, ap}
use Rattle.std.specs.Bool.{IsTrue}
use Rattle.std.specs.Cmp.Lexicographic.{nat_list_eq_equiv}
use Rattle.std.specs.List.{list_any}
use Rattle.std.specs.Str.{bytes_eq}
use Rattle.std.proofs.lemmas.Map.Views.{Contains-from_any, list_any-from_Contains}
use Rattle.std.proofs.lemmas.Slice.Eq.{bytes_eq-Decides}
use Rattle.dates.specs.declared.entry.Entry.{Entry}
use Rattle.dates.specs.Entry.{spelling}
use Rattle.points.specs.Texts.{Text}
use Rattle.store.specs.Change.{with_each, with_imported}
use Rattle.store.specs.Listed.{AreTexts}
use Rattle.store.specs.declared.change.ImportedEntry.{ImportedEntry}
use Rattle.store.specs.Tables.{no_tables}
use Rattle.store_copy.specs.Named.{item_for}
use Rattle.store_copy.proofs.NameLemmas.{with_each-append}

none_more : (same old : Bool) → old ≡ cond same (false || old) old
none_more true old = refl
none_more false old = refl

one_more : (same first rest old : Bool)
    → cond same (rest || ((same && first) || old)) ((same && first) || old) ≡ cond same ((first || rest) || old) old
one_more true true true old = refl
one_more true true false old = refl
one_more true false true old = refl
one_more true false false old = refl
one_more false first rest old = refl

put-entries : (calendar : Text) (entries : List Entry) (old : Text → Text → Bool) (q text : Text)
    → with_each with_imported (map (item_for calendar) entries) old q text
    ≡ cond (bytes_eq calendar q) (list_any (bytes_eq text) (map spelling entries) || old q text) (old q text)
put-entries calendar [] old q text = none_more (bytes_eq calendar q) (old q text)
put-entries calendar (entry ∷ entries) old q text =
    let rest = list_any (bytes_eq text) (map spelling entries) in
    put-entries calendar entries (with_imported (item_for calendar entry) old) q text
    ∙ one_more (bytes_eq calendar q) (bytes_eq (spelling entry) text) rest (old q text)
    ∙ ap (λ b. cond (bytes_eq calendar q) ((b || rest) || old q text) (old q text)) (nat_list_eq_equiv.symm (spelling entry) text)

either_way : (a b : Bool) → (a ≡ true → b ≡ true) → (b ≡ true → a ≡ true) → a ≡ b
either_way true b there back = sym (there refl)
either_way false true there back = back refl
either_way false false there back = refl

-- the texts that are listed are those of which something holds
texts-any : (holds : Text → Bool) (texts : List Text) → AreTexts (λ text. IsTrue (holds text)) texts → (text : Text)
    → list_any (bytes_eq text) texts ≡ holds text
texts-any holds texts are text = either_way _ _
    (λ is. (are.each text).0 (Contains-from_any (λ x y same. (bytes_eq-Decides x y).0 same) text texts is))
    (λ is. list_any-from_Contains nat_list_eq_equiv text texts ((are.each text).1 is))

-- behind others, the entries of a calendar
pub put-calendar : (imported : Text → Text → Bool) (calendar : Text) (entries : List Entry) (items : List ImportedEntry) (q text : Text)
    → AreTexts (λ t. IsTrue (imported calendar t)) (map spelling entries)
    → with_each with_imported (items ++ map (item_for calendar) entries) no_tables.imported q text
    ≡ cond (bytes_eq calendar q) (imported calendar text || with_each with_imported items no_tables.imported q text)
    (with_each with_imported items no_tables.imported q text)
put-calendar imported calendar entries items q text are =
    let table = with_each with_imported items no_tables.imported in
    ap (λ (f : Text → Text → Bool). f q text) (with_each-append with_imported items (map (item_for calendar) entries) no_tables.imported)
    ∙ put-entries calendar entries table q text
    ∙ ap (λ b. cond (bytes_eq calendar q) (b || table q text) (table q text)) (texts-any (imported calendar) (map spelling entries) are text)

pub or-again : (x : Bool) → (x || x) ≡ x
or-again true = refl
or-again false = refl

pub or-none : (x : Bool) → (x || false) ≡ x
or-none true = refl
or-none false = refl
