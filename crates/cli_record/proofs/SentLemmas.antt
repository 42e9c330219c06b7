-- Where two runs of rows differ first.
use Rattle.std.proofs.Common.{◌≡◌, ◌∙◌, ℕ, zero, suc, ◌+◌, ◌-◌, ◌≤◌, ◌<◌, ◌==◌, ◌&&◌, min, Bool, true, false, List, [], ◌∷◌, Option, Some, None, refl, sym, ap, subst, arith, inl, inr}
use Rattle.std.specs.Prelude.{⊤}
use Rattle.std.proofs.lemmas.Bool.{cases_order, false≢true}
use Rattle.std.proofs.lemmas.Bool.Decides.{Decides-eqb}
use Rattle.std.proofs.Math.Nat.{min-eq_left, min-eq_right, min-le_left}
use Rattle.points.specs.ContentEq.{content_eq}
use Rattle.points.proofs.ContentLemmas.{content_eq-Decides}
use Rattle.points.specs.declared.command_row.CommandRow.{CommandRow}
use Rattle.points.specs.declared.content.Content.{Content}
use Rattle.points.specs.declared.numbered_row.NumberedRow.{NumberedRow}
use Rattle.points.specs.Run.{Rows, row_before, rows_between, rows_from}
use Rattle.cli_record.specs.Belonging.{SentAlike, sent}
use Rattle.cli_record.specs.Differences.{end_number, first_number}
use Rattle.cli_record.specs.SentRuns.{AreRuns, first_unlike, is_same_sent}

abbrev row_at : ℕ → CommandRow → NumberedRow
row_at number row = record { number = number; row = row }

-- the first of some rows, if there is one, stands at this number or later
abbrev Begins : ℕ → List NumberedRow → Type 0
Begins number [] = ⊤
Begins number (row ∷ rows) = number ≤ row.number

begins-later : (number : ℕ) (rows : List NumberedRow) → Begins (number + 1) rows → Begins number rows
begins-later number [] later = tt
begins-later number (row ∷ rows) later = omega (arith, later)

begins : (count : ℕ) (rows : Rows) (number : ℕ) → Begins number (rows_from count rows number)
begins zero rows number = tt
begins (suc count) rows number = elim (rows number) as (λ here. Begins number (row_before number here (rows_from count rows (number + 1)))) [
  | None ↦ begins-later number (rows_from count rows (number + 1)) (begins count rows (number + 1))
  | Some row ↦ omega arith
]

not-same : (n m : ℕ) → n < m → (n == m) ≡ false
not-same n m less = elim (n == m) as (λ b. (n == m) ≡ b → b ≡ false) [
  | true ↦ λ e. absurd (let is = (Decides-eqb n m).0 e in omega (arith, is, less))
  | false ↦ λ e. refl
] refl

no-and : (a b : Bool) → a ≡ false → (a && b) ≡ false
no-and a b is = rw is refl

-- a row with none beside it
unlike-left : (number : ℕ) (row : CommandRow) (rows others : List NumberedRow) → Begins (number + 1) others
    → first_unlike (row_at number row ∷ rows) others ≡ Some number
unlike-left number row rows [] later = refl
unlike-left number row rows (other ∷ others) later =
    rw (no-and (number == other.number) (content_eq row.content other.row.content) (not-same number other.number (omega (arith, later))))
    (ap Some (min-eq_left (omega (arith, later))))

unlike-right : (number : ℕ) (row : CommandRow) (rows others : List NumberedRow) → Begins (number + 1) others
    → first_unlike others (row_at number row ∷ rows) ≡ Some number
unlike-right number row rows [] later = refl
unlike-right number row rows (other ∷ others) later =
    rw (no-and (other.number == number) (content_eq other.row.content row.content)
    (elim (other.number == number) as (λ b. (other.number == number) ≡ b → b ≡ false) [
      | true ↦ λ e. absurd (let is = (Decides-eqb other.number number).0 e in omega (arith, is, later))
      | false ↦ λ e. refl
    ] refl))
    (ap Some (min-eq_right (omega (arith, later))))

module _ (held recorded : Rows) where
  -- what is told of so many numbers of either side, from one on
  abbrev Tells : ℕ → ℕ → ℕ → Option ℕ → Type 0
  Tells from ours theirs None = (k : ℕ) → from ≤ k → k < from + ours → k < from + theirs → sent held k ≡ sent recorded k
  Tells from ours theirs (Some number) =
      (from ≤ number)
      × (((k : ℕ) → from ≤ k → k < number → k < from + ours → k < from + theirs → sent held k ≡ sent recorded k)
      × (number < from + ours → number < from + theirs → sent held number ≡ sent recorded number → ⊥))

  alike-more : (from : ℕ) → sent held from ≡ sent recorded from → (k : ℕ) → from ≤ k → (from + 1 ≤ k → sent held k ≡ sent recorded k)
      → sent held k ≡ sent recorded k
  alike-more from here k low later = elim (from == k) as (λ b. (from == k) ≡ b → sent held k ≡ sent recorded k) [
    | true ↦ λ e. subst (λ n. sent held n ≡ sent recorded n) ((Decides-eqb from k).0 e) here
    | false ↦ λ e. later (let no : from ≡ k → ⊥ = λ is. false≢true (sym e ∙ (Decides-eqb from k).1 is) in omega (arith, low, no))
  ] refl

  tells-more : (from ours theirs : ℕ) (found : Option ℕ) → sent held from ≡ sent recorded from → Tells (from + 1) ours theirs found
      → Tells from (suc ours) (suc theirs) found
  tells-more from ours theirs None here told = λ k low ours_high theirs_high.
      alike-more from here k low (λ later. told k later (omega (arith, ours_high)) (omega (arith, theirs_high)))
  tells-more from ours theirs (Some number) here (least, (below, unlike)) = (
    omega (arith, least),
    (
      λ k low under ours_high theirs_high.
          alike-more from here k low (λ later. below k later under (omega (arith, ours_high)) (omega (arith, theirs_high))),
      λ ours_high theirs_high. unlike (omega (arith, ours_high)) (omega (arith, theirs_high)),
    ),
  )

  tells-here : (from ours theirs : ℕ) (found : Option ℕ) → found ≡ Some from → (sent held from ≡ sent recorded from → ⊥)
      → Tells from ours theirs found
  tells-here from ours theirs found is unlike =
      subst (Tells from ours theirs) (sym is)
      (omega arith, (λ k low under ours_high theirs_high. absurd (omega (arith, low, under)), λ ours_high theirs_high. unlike))

  step : (from ours theirs : ℕ) (x y : Option CommandRow) → held from ≡ x → recorded from ≡ y
      → Tells (from + 1) ours theirs (first_unlike (rows_from ours held (from + 1)) (rows_from theirs recorded (from + 1)))
      → Tells from (suc ours) (suc theirs) (first_unlike (row_before from x (rows_from ours held (from + 1)))
      (row_before from y (rows_from theirs recorded (from + 1))))
  step from ours theirs None None is was told = tells-more from ours theirs _ (rw (is, was) refl) told
  step from ours theirs (Some row) None is was told =
      tells-here from (suc ours) (suc theirs) _
      (unlike-left from row (rows_from ours held (from + 1)) (rows_from theirs recorded (from + 1)) (begins theirs recorded (from + 1)))
      (λ same. absurd (let no : Some row.content ≡ None = rw (is, was) at same in cc))
  step from ours theirs None (Some row) is was told =
      tells-here from (suc ours) (suc theirs) _
      (unlike-right from row (rows_from theirs recorded (from + 1)) (rows_from ours held (from + 1)) (begins ours held (from + 1)))
      (λ same. absurd (let no : None ≡ Some row.content = rw (is, was) at same in cc))
  step from ours theirs (Some row) (Some other) is was told = both (content_eq row.content other.content) refl
    where
      at_one : (from == from) ≡ true
      at_one = (Decides-eqb from from).1 refl

      both : (same : Bool) → content_eq row.content other.content ≡ same
          → Tells from (suc ours) (suc theirs) (first_unlike (row_at from row ∷ rows_from ours held (from + 1))
          (row_at from other ∷ rows_from theirs recorded (from + 1)))
      both true e = rw (at_one, e)
          (tells-more from ours theirs _ (rw (is, was) (ap Some ((content_eq-Decides row.content other.content).0 e))) told)
      both false e = rw (at_one, e) (tells-here from (suc ours) (suc theirs) _ (ap Some (min-eq_left (omega arith)))
          (λ same. absurd (
          let one : Some row.content ≡ Some other.content = rw (is, was) at same in
          let two : row.content ≡ other.content = cc in
          false≢true (sym e ∙ (content_eq-Decides row.content other.content).1 two))))

  pub tells : (ours theirs from : ℕ) → Tells from ours theirs (first_unlike (rows_from ours held from) (rows_from theirs recorded from))
  tells zero theirs from = none-ours theirs from (first_unlike [] (rows_from theirs recorded from)) refl
    where
      none-ours : (theirs from : ℕ) (found : Option ℕ) → first_unlike [] (rows_from theirs recorded from) ≡ found → Tells from zero theirs found
      none-ours theirs from None is = λ k low ours_high theirs_high. absurd (omega (arith, low, ours_high))
      none-ours theirs from (Some number) is = (
        least (rows_from theirs recorded from) (begins theirs recorded from) is,
        (
          λ k low under ours_high theirs_high. absurd (omega (arith, low, ours_high)),
          λ ours_high theirs_high same.
              let low = least (rows_from theirs recorded from) (begins theirs recorded from) is in omega (arith, low, ours_high),
        ),
      )
        where
          least : (rows : List NumberedRow) → Begins from rows → first_unlike [] rows ≡ Some number → from ≤ number
          least [] from_here found = absurd (cc found)
          least (row ∷ rows) from_here found = let same : row.number ≡ number = cc in omega (arith, same, from_here)
  tells (suc ours) zero from = none-theirs (rows_from (suc ours) held from) (begins (suc ours) held from)
    where
      none-theirs : (rows : List NumberedRow) → Begins from rows → Tells from (suc ours) zero (first_unlike rows [])
      none-theirs [] low = λ k low ours_high theirs_high. absurd (omega (arith, low, theirs_high))
      none-theirs (row ∷ rows) low = (
        low,
        (
          λ k low under ours_high theirs_high. absurd (omega (arith, low, theirs_high)),
          λ ours_high theirs_high same. omega (arith, low, theirs_high),
        ),
      )
  tells (suc ours) (suc theirs) from =
      step from ours theirs (held from) (recorded from) refl refl (tells ours theirs (from + 1))

-- ---- the rows of a panel

least_of : (a b n : ℕ) → min a b ≤ n → n < b → a ≤ n
least_of a b n least below = elim (cases_order a b) [
  | inl same ↦ let is : min a b ≡ a = min-eq_left (omega (arith, same)) in omega (arith, is, least)
  | inr apart ↦ elim apart [
    | inl less ↦ let is : min a b ≡ a = min-eq_left (omega (arith, less)) in omega (arith, is, least)
    | inr more ↦ let is : min a b ≡ b = min-eq_right (omega (arith, more)) in absurd (omega (arith, is, least, below))
  ]
]

module _ (held recorded : Rows) (next : ℕ) (ours theirs : List NumberedRow) (runs : AreRuns held recorded next ours theirs) where
  abbrev from : ℕ
  from = min (first_number next) (end_number next)

  first : (found : Option ℕ) → first_unlike ours theirs ≡ found
      → Tells held recorded from (runs.0.end - from) (runs.1.end - from) found
  first found is =
      subst (Tells held recorded from (runs.0.end - from) (runs.1.end - from))
      (sym (ap (λ l. first_unlike l theirs) runs.0.is_between
      ∙ ap (first_unlike (rows_between held from runs.0.end)) runs.1.is_between) ∙ is)
      (tells held recorded (runs.0.end - from) (runs.1.end - from) from)

  low_enough : (k : ℕ) → first_number next ≤ k → from ≤ k
  low_enough k low = let least : from ≤ first_number next = min-le_left (first_number next) (end_number next) in omega (arith, low, least)

  pub sent-alike : first_unlike ours theirs ≡ None → SentAlike held recorded next
  sent-alike none k low high =
      let ours_reach = runs.0.reaches in
      let theirs_reach = runs.1.reaches in
      let begins_low = low_enough k low in
      first None none k begins_low (omega (arith, begins_low, high, ours_reach)) (omega (arith, begins_low, high, theirs_reach))

  pub sent-alike-below : (number : ℕ) → first_unlike ours theirs ≡ Some number → end_number next ≤ number → SentAlike held recorded next
  sent-alike-below number is past k low high =
      let ours_reach = runs.0.reaches in
      let theirs_reach = runs.1.reaches in
      let begins_low = low_enough k low in
      (first (Some number) is).1.0 k begins_low (omega (arith, high, past)) (omega (arith, begins_low, high, ours_reach))
      (omega (arith, begins_low, high, theirs_reach))

  pub sent-unlike : (number : ℕ) → first_unlike ours theirs ≡ Some number → number < end_number next
      → (SentAlike held recorded next → ⊥) × (sent held number ≡ sent recorded number → ⊥)
  sent-unlike number is below =
      let told = first (Some number) is in
      let ours_reach = runs.0.reaches in
      let theirs_reach = runs.1.reaches in
      let least = told.0 in
      let unlike = told.1.1 (omega (arith, least, below, ours_reach)) (omega (arith, least, below, theirs_reach)) in
      (λ alike. unlike (alike number (least_of (first_number next) (end_number next) number least below) below), unlike)
