-- What a change of one entry of a table leaves at each name, and what a list of changes does.
use Rattle.std.proofs.Common.{◌≡◌, ℕ, zero, suc, Bool, true, false, cond, List, [], ◌∷◌, Option, Some, None, IsSome, is_some, refl, sym, ap}
use Rattle.std.proofs.Common.{◌∙◌, subst, inl, inr, slice_get, option_map}
use Rattle.std.proofs.Common.{◌+◌, ◌-◌, ◌<◌, ◌≤◌, ◌&&◌, ◌||◌, get_or, drop, length, add-one, drop-cons, arith, Result, Ok, Err, OnOk, OnErr}
use Rattle.std.specs.Cmp.Lexicographic.{nat_list_eq_equiv, slice_cmp}
use Rattle.std.specs.HashMap.{HashMap, IsUnique, get, values}
use Rattle.std.specs.List.{All}
use Rattle.std.specs.Ordering.{nat_cmp, is_eq}
use Rattle.std.specs.Str.{bytes_eq}
use Rattle.std.proofs.lemmas.Bool.{cases_Bool, cases_order, false≢true}
use Rattle.std.proofs.lemmas.List.{get_or_default}
use Rattle.std.proofs.lemmas.Map.Text.{is_eq-slice_cmp}
use Rattle.std.proofs.lemmas.Option.{slice_get-map}
use Rattle.std.proofs.lemmas.Slice.Eq.{bytes_eq-Decides}
use Rattle.indexmap.specs.IndexMap.{with_value_at}
use Rattle.indexmap.proofs.CallerLemmas.{updates-with_value_at}
use Rattle.points.specs.declared.command_row.CommandRow.{CommandRow}
use Rattle.points.specs.Run.{Rows, IsRun, row_before, rows_from}
use Rattle.store.specs.Change.{with_each}

pub is_none : {A : Type 0} (o : Option A) → is_some o ≡ false → o ≡ None
is_none None e = refl
is_none (Some x) e = absurd (false≢true (sym e))

pub by_bytes : {A : Type 0} (v w : Option A) (key q : List ℕ) (now : Option A)
    → now ≡ cond (is_eq (slice_cmp nat_cmp key q)) v w → now ≡ cond (bytes_eq key q) v w
by_bytes v w key q now is = rw (is_eq-slice_cmp key q) at is

-- One entry of a table changes: under the key there is `made` in place of `was`, and under each other name what there was.
pub record Alters {A : Type 0} (key : List ℕ) (was : Option A) (made : A) (old now : List ℕ → Option A) : Type 0 where
  pub before : old key ≡ was
  pub after : (q : List ℕ) → now q ≡ cond (bytes_eq key q) (Some made) (old q)

module _ {A : Type 0} {key : List ℕ} {was : Option A} {made : A} {old now : List ℕ → Option A} (alters : Alters key was made old now) where
  -- what holds of each entry before and after
  pub changed_at : (P : Option A → Option A → Type 0) (q : List ℕ) → (key ≡ q → P was (Some made)) → ((o : Option A) → P o o)
      → P (old q) (now q)
  changed_at P q here elsewhere =
      elim (cases_Bool (bytes_eq key q)) [
        | inl equal ↦
            let same : key ≡ q = (bytes_eq-Decides key q).0 equal in
            let is_made = rw equal at (alters.after q) in
            subst (λ n. P (old q) n) (sym is_made) (subst (λ o. P o (Some made)) (sym alters.before ∙ ap old same) (here same))
        | inr apart ↦
            let is_old = rw apart at (alters.after q) in
            subst (λ n. P (old q) n) (sym is_old) (elsewhere (old q))
      ]

  pub changed : (P : Option A → Option A → Type 0) (q : List ℕ) → P was (Some made) → ((o : Option A) → P o o) → P (old q) (now q)
  changed P q here elsewhere = changed_at P q (λ same. here) elsewhere

  -- an entry that stands for what there was changes nothing
  pub stands_for : {B : Type 0} (seen : Option A → B) (q : List ℕ) → seen (Some made) ≡ seen was → seen (now q) ≡ seen (old q)
  stands_for seen q same = changed (λ o n. seen n ≡ seen o) q same (λ o. refl)

  -- what is seen of the entry is `g` of what was seen of it
  pub written : {B : Type 0} (seen : Option A → B) (g : B → B) (q : List ℕ) → seen (Some made) ≡ g (seen was)
      → seen (now q) ≡ cond (bytes_eq key q) (g (seen (old q))) (seen (old q))
  written seen g q same =
      elim (cases_Bool (bytes_eq key q)) [
        | inl equal ↦
            let here : key ≡ q = (bytes_eq-Decides key q).0 equal in
            let is_made = rw equal at (alters.after q) in
            let at_q : seen (now q) ≡ g (seen (old q)) = ap seen is_made ∙ same ∙ ap (λ o. g (seen o)) (sym alters.before ∙ ap old here) in
            rw equal at_q
        | inr apart ↦
            let is_old = rw apart at (alters.after q) in
            let at_q : seen (now q) ≡ seen (old q) = ap seen is_old in
            rw apart at_q
      ]

-- a write by index changes the entry of the name that is there
pub alters_at : {A S : Type 0} (m : HashMap (List ℕ) A S) (i : ℕ) (name : List ℕ) (was made : A) → IsUnique bytes_eq m
    → (value : A) × (slice_get m.entries i ≡ Some (name, value)) × (get bytes_eq m name ≡ Some value)
    → Some was ≡ slice_get (values m) i
    → Alters name (Some was) made (get bytes_eq m) (get bytes_eq (with_value_at m i made))
alters_at m i name was made unique entry here =
    let there : slice_get (values m) i ≡ Some entry.0 =
    slice_get-map (λ (e : List ℕ × _). e.1) m.entries i ∙ ap (option_map (λ (e : List ℕ × _). e.1)) entry.1 in
    record {
      before = entry.2 ∙ sym (here ∙ there);
      after = (updates-with_value_at m i made nat_list_eq_equiv unique name entry.0 entry.1).0;
    }

-- what is seen of an entry that replaces any other
pub replaced : {A B : Type 0} (seen : Option A → B) (b : Bool) (v : A) (was now : Option A) → now ≡ cond b (Some v) was
    → seen now ≡ cond b (seen (Some v)) (seen was)
replaced seen true v was now is = ap seen is
replaced seen false v was now is = ap seen is

-- what holds of an entry that replaces any other
pub put_at : {A : Type 0} (P : Option A → Type 0) (v : A) (key q : List ℕ) (was now : Option A) → now ≡ cond (bytes_eq key q) (Some v) was
    → (key ≡ q → P (Some v)) → P was → P now
put_at P v key q was now is here stays =
    elim (cases_Bool (bytes_eq key q)) [
      | inl equal ↦ let is_v = rw equal at is in subst P (sym is_v) (here ((bytes_eq-Decides key q).0 equal))
      | inr apart ↦ let is_was = rw apart at is in subst P (sym is_was) stays
    ]

pub some_stays : {A : Type 0} (b : Bool) (v : A) (was now : Option A) → now ≡ cond b (Some v) was → IsSome was → IsSome now
some_stays true v was now is here = ap is_some is
some_stays false v was now is here = ap is_some is ∙ here

pub both_tests : {A : Type 0} (a b : Bool) (x y : A) → cond a (cond b x y) y ≡ cond (a && b) x y
both_tests true b x y = refl
both_tests false b x y = refl

pub first_or : (a b x : Bool) → cond a (b || x) x ≡ ((a && b) || x)
first_or true b x = refl
first_or false b x = refl

pub true_or : (a x : Bool) → cond a true x ≡ (a || x)
true_or true x = refl
true_or false x = refl

-- what follows of a call, whether it succeeds or not
pub either_result : {X Y : Type 0} (r : Result X Y) (A B C : Type 0) → OnOk r A → OnErr r B → (A → C) → (B → C) → C
either_result (Ok x) A B C here none ok err = ok here
either_result (Err e) A B C none here ok err = err here

pub OnOk-then : {X Y : Type 0} (r : Result X Y) (A B : Type 0) → OnOk r A → (A → B) → OnOk r B
OnOk-then (Ok x) A B here then = then here
OnOk-then (Err e) A B none then = tt

-- ---- lists of changes

pub at-item : {X : Type 0} (P : X → Type 0) (xs : List X) (i : ℕ) (item : X) → i < length xs → item ≡ get_or xs i item → All P xs → P item
at-item P xs i item below is all = subst P (sym is) (all i item below)

-- one item more is put
pub each-step : {Item Table : Type 0} (put : Item → Table → Table) (items : List Item) (i : ℕ) (item : Item) (all now next : Table)
    → i < length items → item ≡ get_or items i item → with_each put (drop i items) now ≡ all → next ≡ put item now
    → with_each put (drop (i + 1) items) next ≡ all
each-step put items i item all now next below is so_far step =
    let cut : drop i items ≡ item ∷ drop (suc i) items = drop-cons items i item below ∙ ap (λ x. x ∷ drop (suc i) items) (sym is) in
    let after : with_each put (drop (suc i) items) (put item now) ≡ all = rw cut at so_far in
    rw add-one (ap (with_each put (drop (suc i) items)) step ∙ after)

-- there is room for one item more
pub room-step : {X : Type 0} (P Q : X → Type 0) (xs : List X) (i : ℕ) (item : X) → i < length xs → item ≡ get_or xs i item
    → ((x : X) → P x → Q x) → ((k : ℕ) (d : X) → k < i → P (get_or xs k d)) → Q item
    → (k : ℕ) (d : X) → k < i + 1 → Q (get_or xs k d)
room-step P Q xs i item below is more so_far here k d within =
    elim (cases_order k i) [
      | inl same ↦
          let it : get_or xs k d ≡ item = ap (λ n. get_or xs n d) same ∙ get_or_default xs i d item below ∙ sym is in
          subst Q (sym it) here
      | inr apart ↦ elim apart [
        | inl lower ↦ more (get_or xs k d) (so_far k d lower)
        | inr higher ↦ absurd (omega arith)
      ]
    ]

-- ---- rows

-- a row more without gap
pub unbroken-step : (rows : Rows) (upto number : ℕ) (row : CommandRow) → ((n : ℕ) → upto ≤ n → n < number → IsSome (rows n))
    → rows number ≡ Some row
    → (n : ℕ) → upto ≤ n → n < number + 1 → IsSome (rows n)
unbroken-step rows upto number row so_far here n least below =
    elim (cases_order n number) [
      | inl same ↦ ap (λ m. is_some (rows m)) same ∙ ap is_some here
      | inr apart ↦ elim apart [
        | inl lower ↦ so_far n least lower
        | inr higher ↦ absurd (omega arith)
      ]
    ]

no_rows : (rows : Rows) (count number : ℕ) → ((n : ℕ) → rows n ≡ None) → [] ≡ rows_from count rows number
no_rows rows zero number none = refl
no_rows rows (suc count) number none =
    no_rows rows count (number + 1) none ∙ ap (λ o. row_before number o (rows_from count rows (number + 1))) (sym (none number))

-- where there are no rows, a run has none
pub IsRun-none : (rows : Rows) (from upto : ℕ) → ((n : ℕ) → rows n ≡ None) → IsRun rows from upto []
IsRun-none rows from upto none = record {
  end = upto;
  reaches = omega arith;
  unbroken = λ n above below. absurd (omega arith);
  gap = none upto;
  is_between = no_rows rows (upto - from) from none;
}
