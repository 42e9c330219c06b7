-- Numbers without a row: what a run tells of them, and what they tell of a run.
use Rattle.std.proofs.Common.{◌≡◌, ◌∙◌, ℕ, zero, suc, ◌+◌, ◌-◌, ◌<◌, ◌≤◌, ◌&&◌, if◌then◌else◌, nat_lt, Bool, true, false, bytes_eq, cond, drop, slice_get, List, ◌∷◌, Option, Some, None, IsSome, inl, inr, refl, sym, ap, subst, arith, []}
use Rattle.std.proofs.lemmas.Bool.{cases_Bool, cases_eq, cases_lt, ne_eqb}
use Rattle.std.proofs.lemmas.Slice.Eq.{bytes_eq-Decides}
use Rattle.points.specs.Run.{IsRun, Rows, row_before, rows_from}
use Rattle.points.specs.Texts.{Text}
use Rattle.points.specs.declared.command_row.CommandRow.{CommandRow}
use Rattle.points.specs.declared.numbered_row.NumberedRow.{NumberedRow}
use Rattle.store.specs.Asked.{Asked, IsBrokenRow, IsBrokenRun, IsInRun, Judges}
use Rattle.store.specs.Change.{with_each, with_row, without_rows}
use Rattle.store.specs.declared.change.KeptRow.{KeptRow}
use Rattle.store.specs.declared.change.RowsBelow.{RowsBelow}
use Rattle.store.specs.declared.fault.StoreFault.TheVariants.{BadRow}
use Rattle.store_cache.specs.Free.{AreFree, AreFreeIn}
use Rattle.store_cache.specs.Known.{Knows}
use Rattle.store_cache.specs.declared.free_numbers.FreeNumbers.{FreeNumbers}

-- ---- rows in their order, of which there are none

none_more : (count : ℕ) (rows : Rows) (number : ℕ) (o : Option CommandRow) → rows number ≡ o
    → (rows_from count rows (number + 1) ≡ [] → (n : ℕ) → number + 1 ≤ n → n < number + 1 + count → rows n ≡ None)
    → row_before number o (rows_from count rows (number + 1)) ≡ [] → (n : ℕ) → number ≤ n → n < number + suc count → rows n ≡ None
none_more count rows number None is more none n from below =
    elim (cases_eq n number) [
      | inl same ↦ ap rows same ∙ is
      | inr other ↦ more none n (omega arith) (omega arith)
    ]
none_more count rows number (Some row) is more none n from below = absurd (let e : ⊥ = cc in e)

none_from : (count : ℕ) (rows : Rows) (number : ℕ) → rows_from count rows number ≡ [] → (n : ℕ) → number ≤ n → n < number + count
    → rows n ≡ None
none_from zero rows number none n from below = absurd (omega arith)
none_from (suc count) rows number none n from below =
    none_more count rows number (rows number) refl (none_from count rows (number + 1)) none n from below

-- ---- the first of them

first_more : (count : ℕ) (rows : Rows) (number : ℕ) (o : Option CommandRow) (found : NumberedRow) (rest : List NumberedRow) → rows number ≡ o
    → (rows_from count rows (number + 1) ≡ found ∷ rest → (n : ℕ) → number + 1 ≤ n → n < found.number → rows n ≡ None)
    → row_before number o (rows_from count rows (number + 1)) ≡ found ∷ rest → (n : ℕ) → number ≤ n → n < found.number → rows n ≡ None
first_more count rows number None found rest is more first n from below =
    elim (cases_eq n number) [
      | inl same ↦ ap rows same ∙ is
      | inr other ↦ more first n (omega arith) below
    ]
first_more count rows number (Some row) found rest is more first n from below =
    let here : record { number = number; row = row } ≡ found = cc in
    let numbered : number ≡ found.number = ap (λ (r : NumberedRow). r.number) here in
    absurd (omega arith)

first_from : (count : ℕ) (rows : Rows) (number : ℕ) (found : NumberedRow) (rest : List NumberedRow)
    → rows_from count rows number ≡ found ∷ rest → (n : ℕ) → number ≤ n → n < found.number → rows n ≡ None
first_from zero rows number found rest first n from below = absurd (let e : ⊥ = cc in e)
first_from (suc count) rows number found rest first n from below =
    first_more count rows number (rows number) found rest refl (first_from count rows (number + 1) found rest) first n from below

-- ---- what a run tells

pub run_none : (rows : Rows) (from upto : ℕ) (run : List NumberedRow) → from ≤ upto → IsRun rows from upto run → run ≡ [] → (n : ℕ) → from ≤ n
    → n ≤ upto → rows n ≡ None
run_none rows from upto run ordered is none n after before =
    elim (cases_eq n is.end) [
      | inl same ↦ ap rows same ∙ is.gap
      | inr other ↦
          let reaches = is.reaches in
          none_from (is.end - from) rows from (sym is.is_between ∙ none) n after (omega arith)
    ]

pub run_first : (rows : Rows) (from upto : ℕ) (run : List NumberedRow) (found : NumberedRow) (rest : List NumberedRow) → IsRun rows from upto run
    → run ≡ found ∷ rest → (n : ℕ) → from ≤ n → n < found.number → rows n ≡ None
run_first rows from upto run found rest is begins = first_from (is.end - from) rows from found rest (sym is.is_between ∙ begins)

pub first_of : (run : List NumberedRow) (found : NumberedRow) → slice_get run 0 ≡ Some found → run ≡ found ∷ drop 1 run
first_of [] found is = absurd (let e : ⊥ = cc in e)
first_of (row ∷ run) found is = let same : row ≡ found = cc in ap (λ r. r ∷ run) same

pub none_of : (run : List NumberedRow) → slice_get run 0 ≡ None → run ≡ []
none_of [] is = refl
none_of (row ∷ run) is = absurd (let e : ⊥ = cc in e)

module _ (rows : Rows) (cannot_stand : Asked → Bool) (panel : Text) (from upto : ℕ) where
  near_to : (n : ℕ) → from ≤ n → n ≤ upto → IsInRun rows from upto n
  near_to n after before = record {
    after = after;
    near = elim (cases_lt n upto) [
      | inl less ↦ inl less
      | inr not_less ↦ inr (λ m reached past. absurd (omega arith))
    ];
  }

  -- numbers of a run that have no row are free, where no row of the run cannot stand
  pub ahead_free : (free : FreeNumbers) → Judges (IsBrokenRun cannot_stand rows panel from upto) None
      → ((n : ℕ) → free.first ≤ n → n ≤ free.last → (from ≤ n) × (n ≤ upto) × (rows n ≡ None))
      → AreFree rows (IsBrokenRow cannot_stand panel) free.first free.last
  ahead_free free judges told n after before =
      let here = told n after before in
      (here.2, λ broken. judges.stood refl (n, near_to n here.0 here.1, broken))

  -- ---- what free numbers tell of a run

  none_between : (count : ℕ) (number : ℕ) → ((n : ℕ) → number ≤ n → n < number + count → rows n ≡ None) → rows_from count rows number ≡ []
  none_between zero number none = refl
  none_between (suc count) number none =
      ap (λ o. row_before number o (rows_from count rows (number + 1))) (none number (omega arith) (omega arith))
      ∙ none_between count (number + 1) (λ n after before. none n (omega arith) (omega arith))

  pub free_run : from ≤ upto → AreFree rows (IsBrokenRow cannot_stand panel) from upto → IsRun rows from upto []
  free_run ordered free = record {
    end = upto;
    reaches = omega arith;
    unbroken = λ n after before. absurd (omega arith);
    gap = (free upto ordered (omega arith)).0;
    is_between = sym (none_between (upto - from) from (λ n after before. (free n after (omega arith)).0));
  }

  in_free : (n : ℕ) → AreFree rows (IsBrokenRow cannot_stand panel) from upto → from ≤ upto → IsInRun rows from upto n → n ≤ upto
  in_free n free ordered run =
      elim run.near [
        | inl less ↦ omega arith
        | inr unbroken ↦
            elim (cases_lt upto n) [
              | inl past ↦ absurd (not_some (rows upto) (free upto ordered (omega arith)).0 (unbroken upto (omega arith) past))
              | inr not_past ↦ omega arith
            ]
      ]
    where
      not_some : (o : Option CommandRow) → o ≡ None → IsSome o → ⊥
      not_some None is some = let e : ⊥ = cc in e
      not_some (Some row) is some = let e : ⊥ = cc in e

  pub free_judged : from ≤ upto → AreFree rows (IsBrokenRow cannot_stand panel) from upto
      → Judges (IsBrokenRun cannot_stand rows panel from upto) None
  free_judged ordered free = record {
    bad = λ (is : None ≡ Some BadRow). cc;
    stood = λ _ broken. let n = broken.0 in (free n broken.1.after (in_free n free ordered broken.1)).1 broken.2;
  }

-- ---- what a change leaves of them

pub free_put : (found now : Text → Option FreeNumbers) (item : KeptRow) (rows : Text → Rows) (cannot_stand : Asked → Bool)
    (was left : FreeNumbers) → found item.panel ≡ Some was
    → ((q : Text) → now q ≡ cond (bytes_eq item.panel q) (Some left) (found q))
    → ((n : ℕ) → left.first ≤ n → n ≤ left.last → (was.first ≤ n) × (n ≤ was.last) × (item.number ≡ n → ⊥))
    → Knows found (AreFreeIn rows cannot_stand) (λ panel. false) → Knows now (AreFreeIn (with_row item rows) cannot_stand) (λ panel. false)
free_put found now item rows cannot_stand was left held puts cut knows q other is =
    elim (cases_Bool (bytes_eq item.panel q)) [
      | inl equal ↦
          let same : item.panel ≡ q = (bytes_eq-Decides item.panel q).0 equal in
          let reported = rw equal at (sym (puts q) ∙ is) in
          let it : left ≡ other = cc in
          let here : AreFreeIn (with_row item rows) cannot_stand item.panel left = λ n after before.
          let kept = cut n after before in
          let free = (knows item.panel was held).0 n kept.0 kept.1 in
          (rw (ne_eqb item.number n kept.2, bytes_eq_same) free.0, free.1) in
          (subst (λ l. AreFreeIn (with_row item rows) cannot_stand q l) it (subst (λ p. AreFreeIn (with_row item rows) cannot_stand p left) same here), refl)
      | inr apart ↦ let reported = rw apart at (sym (puts q) ∙ is) in (λ n after before. let free = (knows q other reported).0 n after before in (rw apart free.0, free.1), refl)
    ]
  where
    bytes_eq_same : bytes_eq item.panel item.panel ≡ true
    bytes_eq_same = (bytes_eq-Decides item.panel item.panel).1 refl

-- rows that are dropped leave none where there was none
pub free_dropped : (items : List RowsBelow) (rows : Text → Rows) (panel : Text) (n : ℕ) → rows panel n ≡ None
    → with_each without_rows items rows panel n ≡ None
free_dropped [] rows panel n none = none
free_dropped (item ∷ items) rows panel n none =
    free_dropped items (without_rows item rows) panel n (dropped_one (bytes_eq item.panel panel && nat_lt n item.number))
  where
    dropped_one : (b : Bool) → (if b then None else rows panel n) ≡ None
    dropped_one true = refl
    dropped_one false = none
