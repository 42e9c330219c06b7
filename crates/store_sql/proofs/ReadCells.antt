-- What a cell is that has a given text or number.
use Rattle.std.proofs.Common.{◌≡◌, ℕ, pos, negsuc, List, Some, true, refl, sym, ap, true≢false}
use Rattle.std.proofs.lemmas.Bool.{eqb-true}
use Rattle.points.specs.Name.{IsName}
use Rattle.sqlite_value.specs.declared.value.Value.{Value}
use Rattle.sqlite_value.specs.declared.value.Value.TheVariants.{Blob, Int, Null, Real, Text}
use Rattle.store_sql_rows.specs.Cells.{is_count, is_text, name_in}
use Rattle.store_sql_rows.proofs.ReadCellLemmas.{same-text}

pub text_here : (text : List ℕ) (cell : Value) → is_text text cell ≡ true → cell ≡ Text text
text_here text (Text t) is = ap Text (sym (same-text text t is))
text_here text Null is = absurd (true≢false (sym is))
text_here text (Int n) is = absurd (true≢false (sym is))
text_here text (Real x) is = absurd (true≢false (sym is))
text_here text (Blob b) is = absurd (true≢false (sym is))

pub name_here : (name : List ℕ) (cell : Value) → IsName name → is_text name cell ≡ true → name_in cell ≡ Some name
name_here name cell named is = rw (text_here name cell is, named) refl

pub count_here : (count : ℕ) (cell : Value) → is_count count cell ≡ true → cell ≡ Int (pos count)
count_here count (Int (pos n)) is = ap (λ m. Int (pos m)) (sym (eqb-true count n is))
count_here count (Int (negsuc n)) is = absurd (true≢false (sym is))
count_here count (Text t) is = absurd (true≢false (sym is))
count_here count Null is = absurd (true≢false (sym is))
count_here count (Real x) is = absurd (true≢false (sym is))
count_here count (Blob b) is = absurd (true≢false (sym is))
