-- What a cell says to a comparison.
use Rattle.std.proofs.Common.{◌≡◌, ℕ, ℤ, pos, negsuc, Bool, true, false, cond, not, ◌==◌, nat_lt, ◌&&◌, Option, None, Some, List, bytes_eq, refl, sym, ap, subst, ◌∙◌, IsTrue, true≢false}
use Rattle.std.specs.Ordering.{int_cmp, is_eq, is_ge, is_lt}
use Rattle.std.specs.declared.cmp.Ordering.TheVariants.{Less, Equal, Greater}
use Rattle.std.proofs.lemmas.Bool.Decides.{Decides-eqb, Decides-int_eq}
use Rattle.std.proofs.lemmas.Slice.Eq.{bytes_eq-Decides}
use Rattle.std.proofs.lemmas.Map.Text.{is_eq-slice_cmp}
use Rattle.sqlite_value.specs.declared.keys.Collation.TheVariants.{Binary}
use Rattle.sqlite_value.specs.declared.value.Value.{Value}
use Rattle.sqlite_value.specs.declared.value.Value.TheVariants.{Null, Int, Real, Text, Blob}
use Rattle.sqlite_value.specs.Order.{Row, value_cmp}
use Rattle.sqlite_trees.specs.Tree.{has_rowid, rowid}
use Rattle.sqlite_trees.specs.View.{is_int}
use Rattle.sqlite_rules.specs.Edit.{id_in}
use Rattle.sqlite_rules.proofs.TableLemmas.{int_is}
use Rattle.sqlite_value.proofs.OrderLemmas.{value_cmp-Int, value_cmp-Text}
use Rattle.sqlite_sql.specs.declared.ops.BinaryOp.TheVariants.{Compare}
use Rattle.sqlite_sql.specs.declared.ops.CompareOp.TheVariants.{Eq, Ge, Lt}
use Rattle.sqlite_sql.specs.Ops.{binary, from_truth, is_null, is_true}
use Rattle.sqlite_schema.specs.declared.schema.Kind.TheVariants as kind
use Rattle.sqlite_schema.specs.Rules.{is_of}
use Rattle.sqlite_rules.specs.Cast.{cast}
use Rattle.sqlite_schema.specs.declared.schema.Kind.TheVariants.{Integer}
use Rattle.sqlite_sql.specs.Ops.{unary}
use Rattle.sqlite.specs.Values.{bound_value}
use Rattle.store_sql_rows.specs.Looking.{is_from, is_from_text}
use Rattle.store_sql_rows.specs.Cells.{cell_of, is_below, is_count, is_text}

by_both : (a b : Bool) → (a ≡ true → b ≡ true) → (b ≡ true → a ≡ true) → a ≡ b
by_both true b there back = sym (there refl)
by_both false true there back = back refl
by_both false false there back = refl

same_either_way : (s t : List ℕ) → bytes_eq s t ≡ bytes_eq t s
same_either_way s t =
    by_both _ _ (λ e. (bytes_eq-Decides t s).1 (sym ((bytes_eq-Decides s t).0 e)))
    (λ e. (bytes_eq-Decides s t).1 (sym ((bytes_eq-Decides t s).0 e)))

pos_same : (m n : ℕ) → pos m ≡ pos n → m ≡ n
pos_same m n e = cc

same_count : (m n : ℕ) → is_eq (int_cmp (pos m) (pos n)) ≡ (n == m)
same_count m n =
    by_both _ _ (λ e. (Decides-eqb n m).1 (sym (pos_same m n ((Decides-int_eq (pos m) (pos n)).0 e))))
    (λ e. (Decides-int_eq (pos m) (pos n)).1 (ap pos (sym ((Decides-eqb n m).0 e))))

is_lt_cond : (a b : Bool) → is_lt (cond a Less (cond b Greater Equal)) ≡ a
is_lt_cond true b = refl
is_lt_cond false true = refl
is_lt_cond false false = refl

truth_of : (b : Bool) → is_true (from_truth (Some b)) ≡ b
truth_of true = refl
truth_of false = refl

pub equal_text : (t : List ℕ) (cell : Value) → is_of kind.Text cell ≡ true → is_null cell ≡ false
    → is_true (binary (Compare Eq Binary) cell (Text t)) ≡ is_text t cell
unfolding binary
equal_text t Null kind filled = absurd (true≢false filled)
equal_text t (Int n) kind filled = absurd (true≢false (sym kind))
equal_text t (Real x) kind filled = absurd (true≢false (sym kind))
equal_text t (Text s) kind filled = truth_of _ ∙ ap is_eq (value_cmp-Text s t) ∙ is_eq-slice_cmp s t ∙ same_either_way s t
equal_text t (Blob b) kind filled = absurd (true≢false (sym kind))

pub equal_count : (n : ℕ) (cell : Value) → is_of kind.Integer cell ≡ true → is_null cell ≡ false
    → is_true (binary (Compare Eq Binary) cell (Int (pos n))) ≡ is_count n cell
unfolding binary
equal_count n Null kind filled = absurd (true≢false filled)
equal_count n (Int (pos m)) kind filled = truth_of _ ∙ ap is_eq (value_cmp-Int (pos m) (pos n)) ∙ same_count m n
equal_count n (Int (negsuc m)) kind filled = truth_of _ ∙ ap is_eq (value_cmp-Int (negsuc m) (pos n))
equal_count n (Real x) kind filled = absurd (true≢false (sym kind))
equal_count n (Text s) kind filled = absurd (true≢false (sym kind))
equal_count n (Blob b) kind filled = absurd (true≢false (sym kind))

-- a cell that is filled with a text, or with a number
pub text_cell : (cell : Value) → is_of kind.Text cell ≡ true → is_null cell ≡ false → (text : List ℕ) × (cell ≡ Text text)
text_cell Null kind filled = absurd (true≢false filled)
text_cell (Int n) kind filled = absurd (true≢false (sym kind))
text_cell (Real x) kind filled = absurd (true≢false (sym kind))
text_cell (Text t) kind filled = (t, refl)
text_cell (Blob b) kind filled = absurd (true≢false (sym kind))

pub int_cell : (cell : Value) → is_of kind.Integer cell ≡ true → is_null cell ≡ false → (number : ℤ) × (cell ≡ Int number)
int_cell Null kind filled = absurd (true≢false filled)
int_cell (Int n) kind filled = (n, refl)
int_cell (Real x) kind filled = absurd (true≢false (sym kind))
int_cell (Text t) kind filled = absurd (true≢false (sym kind))
int_cell (Blob b) kind filled = absurd (true≢false (sym kind))

equal_numbers : (n m : ℤ) → is_true (binary (Compare Eq Binary) (Int m) (Int n)) ≡ is_eq (value_cmp (Int m) (Int n))
unfolding binary
equal_numbers n m = truth_of _

-- the number of a row is compared with another
pub equal_rowid : (n : ℤ) (row : Row) → IsTrue (is_int (rowid row))
    → is_true (binary (Compare Eq Binary) (rowid row) (Int n)) ≡ has_rowid n row
equal_rowid n row numbered =
    subst (λ v. is_true (binary (Compare Eq Binary) v (Int n)) ≡ is_eq (value_cmp v (Int n)))
    (sym (int_is (rowid row) numbered)) (equal_numbers n (id_in (rowid row)))

pub below_count : (n : ℕ) (cell : Value) → is_of kind.Integer cell ≡ true → is_null cell ≡ false
    → is_true (binary (Compare Lt Binary) cell (Int (pos n))) ≡ is_below n cell
unfolding binary
below_count n Null kind filled = absurd (true≢false filled)
below_count n (Int (pos m)) kind filled = truth_of _ ∙ ap is_lt (value_cmp-Int (pos m) (pos n)) ∙ is_lt_cond (nat_lt m n) (nat_lt n m)
below_count n (Int (negsuc m)) kind filled = truth_of _ ∙ ap is_lt (value_cmp-Int (negsuc m) (pos n))
below_count n (Real x) kind filled = absurd (true≢false (sym kind))
below_count n (Text s) kind filled = absurd (true≢false (sym kind))
below_count n (Blob b) kind filled = absurd (true≢false (sym kind))

either : (b : Bool) (x : Value) → cond b x x ≡ x
either true x = refl
either false x = refl

pub cast_null : cast Integer Null ≡ Null
unfolding unary
cast_null = either _ Null

pub cast_int : (n : ℤ) → cast Integer (Int n) ≡ Int n
unfolding unary
cast_int n = either _ (Int n)

pub cast_cell : (n : Option ℤ) → cast Integer (cell_of n) ≡ cell_of n
cast_cell None = cast_null
cast_cell (Some n) = cast_int n

pub and_true : (b : Bool) → (b && true) ≡ b
and_true true = refl
and_true false = refl

pub bound_cell : (n : Option ℤ) → bound_value (cell_of n) ≡ cell_of n
bound_cell None = refl
bound_cell (Some n) = refl

is_ge_cond : (a b : Bool) → is_ge (cond a Less (cond b Greater Equal)) ≡ not a
is_ge_cond true b = refl
is_ge_cond false true = refl
is_ge_cond false false = refl

pub from_text : (t : List ℕ) (cell : Value) → is_of kind.Text cell ≡ true → is_null cell ≡ false
    → is_true (binary (Compare Ge Binary) cell (Text t)) ≡ is_from_text t cell
unfolding binary
from_text t Null kind filled = absurd (true≢false filled)
from_text t (Int n) kind filled = absurd (true≢false (sym kind))
from_text t (Real x) kind filled = absurd (true≢false (sym kind))
from_text t (Text s) kind filled = truth_of _ ∙ ap is_ge (value_cmp-Text s t)
from_text t (Blob b) kind filled = absurd (true≢false (sym kind))

pub from_count : (n : ℕ) (cell : Value) → is_of kind.Integer cell ≡ true → is_null cell ≡ false
    → is_true (binary (Compare Ge Binary) cell (Int (pos n))) ≡ is_from n cell
unfolding binary
from_count n Null kind filled = absurd (true≢false filled)
from_count n (Int (pos m)) kind filled = truth_of _ ∙ ap is_ge (value_cmp-Int (pos m) (pos n)) ∙ is_ge_cond (nat_lt m n) (nat_lt n m)
from_count n (Int (negsuc m)) kind filled = truth_of _ ∙ ap is_ge (value_cmp-Int (negsuc m) (pos n))
from_count n (Real x) kind filled = absurd (true≢false (sym kind))
from_count n (Text s) kind filled = absurd (true≢false (sym kind))
from_count n (Blob b) kind filled = absurd (true≢false (sym kind))
