-- That no two rows of a table have one key, since its index is unique.
use Rattle.std.proofs.Common.{◌≡◌, ◌&&◌, ℕ, ℤ, pos, negsuc, inl, inr, Bool, true, false, not, List, Ordering, Some, refl, sym, ap, subst₂, ◌∙◌, true≢false}
use Rattle.std.specs.declared.cmp.Ordering.TheVariants.{Less, Equal, Greater}
use Rattle.std.specs.Ordering.{int_cmp, is_eq, is_ne}
use Rattle.std.proofs.lemmas.Bool.{and_from, cases_Bool}
use Rattle.std.proofs.lemmas.Bool.Decides.{Decides-eqb, Decides-int_eq}
use Rattle.std.proofs.lemmas.Slice.Eq.{bytes_eq-Decides}
use Rattle.sqlite_value.specs.declared.value.Value.{Value}
use Rattle.sqlite_value.specs.declared.value.Value.TheVariants.{Null, Int, Real, Text, Blob}
use Rattle.sqlite_value.specs.Order.{Row}
use Rattle.sqlite_value.proofs.OrderLemmas.{value_cmp-Int}
use Rattle.sqlite_sql.specs.Ops.{binary, from_truth, is_true}
use Rattle.sqlite_trees.specs.Tree.{rowid}
use Rattle.sqlite_trees.specs.View.{is_int}
use Rattle.sqlite_schema.specs.declared.schema.Constraint.TheVariants.{Unique}
use Rattle.sqlite_schema.specs.declared.schema.Index.{Index}
use Rattle.sqlite_schema.specs.declared.schema.Table.{Table}
use Rattle.sqlite_schema.specs.Rules.{agree, clashes, differ, guards}
use Rattle.sqlite_rules.specs.Edit.{id_in}
use Rattle.sqlite_rules.specs.Lists.{Has}
use Rattle.sqlite_rules.proofs.ListLemmas.{some_from, test_has}
use Rattle.sqlite_rules.proofs.RuleLemmas.{keeps_at}
use Rattle.sqlite_rules.proofs.TableLemmas.{int_is}
use Rattle.sqlite.specs.Effect.{Database}
use Rattle.store_sql_rows.specs.Schema.{desk_schema}
use Rattle.store_sql_rows.specs.Ours.{AreOwn, IsOurs}
use Rattle.store_sql_rows.proofs.SlotLemmas.{not_true}
use Rattle.store_sql_rows.proofs.TypeLemmas.{ruled}
use Rattle.store_sql_rows.specs.Cells.{is_count, is_text}

truth_of : (b : Bool) → is_true (from_truth (Some b)) ≡ b
truth_of true = refl
truth_of false = refl

differ_ints : (m n : ℤ) → differ (Int m) (Int n) ≡ is_ne (int_cmp m n)
unfolding binary
differ_ints m n = truth_of _ ∙ ap is_ne (value_cmp-Int m n)

not_apart : (o : Ordering) → is_ne o ≡ false → is_eq o ≡ true
not_apart Less h = absurd (true≢false h)
not_apart Equal h = refl
not_apart Greater h = absurd (true≢false h)

same_number : (a b : Value) → is_int a ≡ true → is_int b ≡ true → differ a b ≡ false → a ≡ b
same_number a b int other h =
    let p = int_is a int in
    let q = int_is b other in
    let same =
    (Decides-int_eq (id_in a) (id_in b)).0 (not_apart _
    (sym (differ_ints (id_in a) (id_in b)) ∙ subst₂ (λ v w. differ v w ≡ false) p q h)) in
    p ∙ ap Int same ∙ sym q

-- two rows that agree on the key of a unique index have one number
pub one_number : (index : Index) (table : Table) (key : List ℕ) (db : Database) → IsOurs db → Has desk_schema.tables table
    → Has desk_schema.indexes index → guards index table ≡ true
    → AreOwn key (db.trees table.tree) → (a b : Row) → Has (db.trees table.tree) a → Has (db.trees table.tree) b
    → agree index.order index.columns a index.columns b ≡ true → rowid a ≡ rowid b
one_number index table key db ours listed known guarded own a b ha hb agrees =
    let rows = db.trees table.tree in
    let kept = keeps_at Unique desk_schema db.trees table b (ruled Unique db ours) listed hb in
    let alone =
    not_true _ (test_has (λ i. not (guards i table && clashes i.order i.columns rows b)) desk_schema.indexes index kept known) in
    let free : clashes index.order index.columns rows b ≡ false = rw guarded at alone in
    elim (cases_Bool (differ (rowid a) (rowid b))) [
      | inl apart ↦ absurd (true≢false (sym (some_from _ rows a ha (and_from _ _ agrees apart)) ∙ free))
      | inr same ↦ same_number (rowid a) (rowid b) (own.numbered a ha) (own.numbered b hb) same
    ]

-- ---- the cells of a key

pub text_is : (text : List ℕ) (cell : Value) → is_text text cell ≡ true → cell ≡ Text text
text_is text Null h = absurd (true≢false (sym h))
text_is text (Int n) h = absurd (true≢false (sym h))
text_is text (Real x) h = absurd (true≢false (sym h))
text_is text (Text t) h = ap Text (sym ((bytes_eq-Decides text t).0 h))
text_is text (Blob b) h = absurd (true≢false (sym h))

pub count_is : (count : ℕ) (cell : Value) → is_count count cell ≡ true → cell ≡ Int (pos count)
count_is count Null h = absurd (true≢false (sym h))
count_is count (Int (pos n)) h = ap (λ m. Int (pos m)) (sym ((Decides-eqb count n).0 h))
count_is count (Int (negsuc n)) h = absurd (true≢false (sym h))
count_is count (Real x) h = absurd (true≢false (sym h))
count_is count (Text t) h = absurd (true≢false (sym h))
count_is count (Blob b) h = absurd (true≢false (sym h))
