-- What the cells say to a question.
use Rattle.std.proofs.Common.{◌≡◌, ◌↔◌, ℤ, Bool, true, false, not, ◌&&◌, Some, codes, refl, sym, ap, ◌∙◌, true≢false}
use Rattle.std.specs.Ordering.{int_cmp, is_eq, is_ne}
use Rattle.std.proofs.lemmas.Bool.Decides.{Decides-int_eq}
use Rattle.std.proofs.lemmas.Cmp.{tied_itself}
use Rattle.std.proofs.lemmas.Map.Text.{is_eq-slice_cmp}
use Rattle.std.proofs.lemmas.Slice.Eq.{bytes_eq-Decides}
use Rattle.sqlite_value.specs.declared.keys.Collation.TheVariants.{Binary}
use Rattle.sqlite_value.specs.declared.value.Value.{Value}
use Rattle.sqlite_value.specs.declared.value.Value.TheVariants.{Null, Int, Real, Text, Blob}
use Rattle.sqlite_value.specs.Order.{value_cmp}
use Rattle.sqlite_value.proofs.OrderLemmas.{value_cmp-Int, value_cmp-Text, value_cmp_total}
use Rattle.sqlite_schema.specs.declared.schema.Kind.TheVariants as kind
use Rattle.sqlite_sql.specs.declared.ops.BinaryOp.TheVariants.{Compare, Is, Or}
use Rattle.sqlite_sql.specs.declared.ops.CompareOp.TheVariants.{Eq, Ne}
use Rattle.sqlite_sql.specs.declared.ops.UnaryOp.TheVariants.{Not, TypeOf}
use Rattle.sqlite_sql.specs.Ops.{binary, from_truth, is_true, unary}
use Rattle.sqlite_trees.specs.View.{is_int}
use Rattle.store_sql_rows.proofs.TypeLemmas.{IsFilled}

truth_of : (b : Bool) → is_true (from_truth (Some b)) ≡ b
truth_of true = refl
truth_of false = refl

pub no_number : (v : Value) → is_true (binary (Compare Ne Binary) (unary TypeOf v) (Text (codes "integer"))) ≡ not (is_int v)
unfolding binary unary
no_number Null = truth_of _ ∙ ap is_ne (value_cmp-Text (codes "null") (codes "integer"))
no_number (Int n) = truth_of _ ∙ ap is_ne (value_cmp-Text (codes "integer") (codes "integer"))
no_number (Real x) = truth_of _ ∙ ap is_ne (value_cmp-Text (codes "real") (codes "integer"))
no_number (Text t) = truth_of _ ∙ ap is_ne (value_cmp-Text (codes "text") (codes "integer"))
no_number (Blob b) = truth_of _ ∙ ap is_ne (value_cmp-Text (codes "blob") (codes "integer"))

pub shares : (v w : Value) → is_int v ≡ true → is_int w ≡ true → (is_true (binary (Compare Eq Binary) v w) ≡ true) ↔ (v ≡ w)
unfolding binary
shares (Int m) (Int n) vi wi =
    let reported : is_true (from_truth (Some (is_eq (value_cmp (Int m) (Int n))))) ≡ is_eq (int_cmp m n) =
    truth_of _ ∙ ap is_eq (value_cmp-Int m n) in
    (λ is. ap Int ((Decides-int_eq m n).0 (sym reported ∙ is)), λ same. reported ∙ (Decides-int_eq m n).1 (int_same m n same))
  where
    int_same : (m n : ℤ) → Int m ≡ Int n → m ≡ n
    int_same m n e = cc
shares (Int m) Null vi wi = absurd (true≢false (sym wi))
shares (Int m) (Real x) vi wi = absurd (true≢false (sym wi))
shares (Int m) (Text t) vi wi = absurd (true≢false (sym wi))
shares (Int m) (Blob b) vi wi = absurd (true≢false (sym wi))
shares Null w vi wi = absurd (true≢false (sym vi))
shares (Real x) w vi wi = absurd (true≢false (sym vi))
shares (Text t) w vi wi = absurd (true≢false (sym vi))
shares (Blob b) w vi wi = absurd (true≢false (sym vi))

-- the two cells tie
abbrev pub ties : Value → Value → Bool
ties v w = is_eq (value_cmp v w)

not_reported : (b : Bool) → is_true (unary Not (from_truth (Some b))) ≡ not b
unfolding unary
not_reported true = refl
not_reported false = refl

pub differs_reported : (v w : Value) → is_true (unary Not (binary (Is Binary) v w)) ≡ not (ties v w)
unfolding binary
differs_reported v w = not_reported (ties v w)

either_reported : (a b : Bool) → is_true (binary Or (unary Not (from_truth (Some a))) (unary Not (from_truth (Some b)))) ≡ not (a && b)
unfolding binary unary
either_reported true true = refl
either_reported true false = refl
either_reported false true = refl
either_reported false false = refl

pub differ_reported : (v w x y : Value)
    → is_true (binary Or (unary Not (binary (Is Binary) v w)) (unary Not (binary (Is Binary) x y))) ≡ not (ties v w && ties x y)
unfolding binary
differ_reported v w x y = either_reported (ties v w) (ties x y)

pub tied_same : (v w : Value) → v ≡ w → ties v w ≡ true
tied_same v w same = ap (λ x. is_eq (value_cmp v x)) (sym same) ∙ ap is_eq (tied_itself value_cmp_total v)

pub text_tied : (v w : Value) → IsFilled kind.Text v → IsFilled kind.Text w → ties v w ≡ true → v ≡ w
text_tied (Text s) (Text t) fv fw is =
    ap Text ((bytes_eq-Decides s t).0 (sym (is_eq-slice_cmp s t) ∙ ap is_eq (sym (value_cmp-Text s t)) ∙ is))
text_tied (Text s) Null fv fw is = absurd (true≢false fw.filled)
text_tied (Text s) (Int n) fv fw is = absurd (true≢false (sym fw.of))
text_tied (Text s) (Real x) fv fw is = absurd (true≢false (sym fw.of))
text_tied (Text s) (Blob b) fv fw is = absurd (true≢false (sym fw.of))
text_tied Null w fv fw is = absurd (true≢false fv.filled)
text_tied (Int n) w fv fw is = absurd (true≢false (sym fv.of))
text_tied (Real x) w fv fw is = absurd (true≢false (sym fv.of))
text_tied (Blob b) w fv fw is = absurd (true≢false (sym fv.of))

pub number_tied : (v w : Value) → IsFilled kind.Integer v → IsFilled kind.Integer w → ties v w ≡ true → v ≡ w
number_tied (Int m) (Int n) fv fw is = ap Int ((Decides-int_eq m n).0 (ap is_eq (sym (value_cmp-Int m n)) ∙ is))
number_tied (Int m) Null fv fw is = absurd (true≢false fw.filled)
number_tied (Int m) (Text t) fv fw is = absurd (true≢false (sym fw.of))
number_tied (Int m) (Real x) fv fw is = absurd (true≢false (sym fw.of))
number_tied (Int m) (Blob b) fv fw is = absurd (true≢false (sym fw.of))
number_tied Null w fv fw is = absurd (true≢false fv.filled)
number_tied (Text t) w fv fw is = absurd (true≢false (sym fv.of))
number_tied (Real x) w fv fw is = absurd (true≢false (sym fv.of))
number_tied (Blob b) w fv fw is = absurd (true≢false (sym fv.of))
