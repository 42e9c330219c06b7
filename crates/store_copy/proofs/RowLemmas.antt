-- The rows of a run that are remembered, put into a table.
use Rattle.std.proofs.Common.{◌≡◌, ℕ, zero, suc, ◌+◌, ◌-◌, ◌≤◌, ◌<◌, ◌==◌, ◌||◌, ◌&&◌, Bool, true, false, cond, List, [], ◌∷◌, map, filter, Option, Some, None, inl, inr, refl, sym, ap, ◌∙◌, arith}
use Rattle.std.specs.Str.{bytes_eq}
use Rattle.std.proofs.lemmas.Bool.{cases_Bool, false≢true}
use Rattle.std.proofs.lemmas.Bool.Decides.{Decides-eqb}
use Rattle.store_copy.specs.Remembered.{is_remembered, remembered_row}
use Rattle.store_copy.specs.Named.{or_else, row_for}
use Rattle.points.specs.declared.command_row.CommandRow.{CommandRow}
use Rattle.points.specs.declared.numbered_row.NumberedRow.{NumberedRow}
use Rattle.points.specs.Run.{Rows, row_before, rows_between, rows_from}
use Rattle.store.specs.Change.{with_each, with_row}
use Rattle.points.specs.Texts.{Text}

-- the last row under a number
abbrev pub row_at : ℕ → List NumberedRow → Option CommandRow
row_at n [] = None
row_at n (numbered ∷ more) = or_else (row_at n more) (cond (numbered.number == n) (Some numbered.row) None)

either : (rest here old : Option CommandRow) → or_else rest (or_else here old) ≡ or_else (or_else rest here) old
either None here old = refl
either (Some row) here old = refl

at_row : (same is : Bool) (row : CommandRow) (rest old : Option CommandRow)
    → cond same (or_else rest (cond (same && is) (Some row) old)) (cond (same && is) (Some row) old)
    ≡ cond same (or_else (or_else rest (cond is (Some row) None)) old) old
at_row true true row rest old = either rest (Some row) old
at_row true false row rest old = either rest None old
at_row false is row rest old = refl

put-each : (panel q : Text) (n : ℕ) (rows : List NumberedRow) (table : Text → Rows)
    → with_each with_row (map (row_for panel) rows) table q n ≡ cond (bytes_eq panel q) (or_else (row_at n rows) (table q n)) (table q n)
put-each panel q n [] table = none (bytes_eq panel q) (table q n)
  where
    none : (b : Bool) (o : Option CommandRow) → o ≡ cond b o o
    none true o = refl
    none false o = refl
put-each panel q n (numbered ∷ more) table =
    put-each panel q n more (with_row (row_for panel numbered) table)
    ∙ at_row (bytes_eq panel q) (numbered.number == n) numbered.row (row_at n more) (table q n)

-- whether a number is one of so many from another on
abbrev pub is_within : ℕ → ℕ → ℕ → Bool
is_within zero from n = false
is_within (suc count) from n = (from == n) || is_within count (from + 1) n

within : (count from n : ℕ) → from ≤ n → n < from + count → is_within count from n ≡ true
within zero from n least most = absurd (omega (arith, least, most))
within (suc count) from n least most = elim (cases_Bool (from == n)) [
  | inl here ↦ ap (λ b. b || is_within count (from + 1) n) here
  | inr above ↦
      let apart : from ≡ n → ⊥ = λ is. false≢true (sym above ∙ (Decides-eqb from n).1 is) in
      ap (λ b. b || is_within count (from + 1) n) above
      ∙ within count (from + 1) n (omega (arith, least, apart)) (omega (arith, most))
]

-- the row of a number, of those that pass a test
abbrev pub tested : (ℕ → Bool) → Rows → ℕ → Option CommandRow
tested test rows n = cond (test n) (rows n) None

first-row : (test : ℕ → Bool) (number n : ℕ) (o : Option CommandRow) (rest : List NumberedRow)
    → row_at n (filter (λ it. test it.number) (row_before number o rest))
    ≡ or_else (row_at n (filter (λ it. test it.number) rest)) (cond (number == n) (cond (test number) o None) None)
first-row test number n None rest = nothing (row_at n (filter (λ it. test it.number) rest)) (number == n) (test number)
  where
    nothing : (o : Option CommandRow) (is passes : Bool) → o ≡ or_else o (cond is (cond passes None None) None)
    nothing (Some row) is passes = refl
    nothing None true true = refl
    nothing None true false = refl
    nothing None false passes = refl
first-row test number n (Some row) rest = by_test (test number) refl
  where
    unchanged : (o : Option CommandRow) (is : Bool) → o ≡ or_else o (cond is None None)
    unchanged (Some row) is = refl
    unchanged None true = refl
    unchanged None false = refl

    by_test : (b : Bool) → test number ≡ b
        → row_at n (cond b (record { number = number; row = row } ∷ filter (λ it. test it.number) rest) (filter (λ it. test it.number) rest))
        ≡ or_else (row_at n (filter (λ it. test it.number) rest)) (cond (number == n) (cond b (Some row) None) None)
    by_test true is = refl
    by_test false is = unchanged (row_at n (filter (λ it. test it.number) rest)) (number == n)

rows-tested : (test : ℕ → Bool) (rows : Rows) (count from n : ℕ)
    → row_at n (filter (λ it. test it.number) (rows_from count rows from)) ≡ cond (is_within count from n) (tested test rows n) None
rows-tested test rows zero from n = refl
rows-tested test rows (suc count) from n =
    first-row test from n (rows from) (rows_from count rows (from + 1))
    ∙ ap (λ o. or_else o (cond (from == n) (tested test rows from) None)) (rows-tested test rows count (from + 1) n)
    ∙ elim (cases_Bool (from == n)) [
      | inl here ↦
          let is = (Decides-eqb from n).0 here in
          ap (λ b. or_else (cond (is_within count (from + 1) n) (tested test rows n) None) (cond b (tested test rows from) None)) here
          ∙ ap (λ m. or_else (cond (is_within count (from + 1) n) (tested test rows n) None) (tested test rows m)) is
          ∙ twice (is_within count (from + 1) n) (tested test rows n)
          ∙ sym (ap (λ b. cond (b || is_within count (from + 1) n) (tested test rows n) None) here)
      | inr other ↦
          ap (λ b. or_else (cond (is_within count (from + 1) n) (tested test rows n) None) (cond b (tested test rows from) None)) other
          ∙ alone (cond (is_within count (from + 1) n) (tested test rows n) None)
          ∙ sym (ap (λ b. cond (b || is_within count (from + 1) n) (tested test rows n) None) other)
    ]
  where
    twice : (b : Bool) (o : Option CommandRow) → or_else (cond b o None) o ≡ o
    twice true None = refl
    twice true (Some row) = refl
    twice false o = refl

    alone : (o : Option CommandRow) → or_else o None ≡ o
    alone None = refl
    alone (Some row) = refl

-- the rows of a run that reaches so far are those of the remembered numbers
pub run-remembered : (next from end n : ℕ) (rows : Rows) → ((number : ℕ) → is_remembered next number ≡ true → (from ≤ number) × (number < end))
    → row_at n (filter (λ it. is_remembered next it.number) (rows_between rows from end)) ≡ remembered_row next rows n
run-remembered next from end n rows reaches =
    rows-tested (is_remembered next) rows (end - from) from n
    ∙ elim (cases_Bool (is_remembered next n)) [
      | inl is ↦
          let least = (reaches n is).0 in
          let most = (reaches n is).1 in
          ap (λ b. cond b (tested (is_remembered next) rows n) None) (within (end - from) from n least (omega (arith, least, most)))
      | inr isnt ↦
          ap (λ b. cond (is_within (end - from) from n) (cond b (rows n) None) None) isnt
          ∙ never (is_within (end - from) from n) None ∙ sym (ap (λ b. cond b (rows n) None) isnt)
    ]
  where
    never : (b : Bool) (o : Option CommandRow) → cond b o o ≡ o
    never true o = refl
    never false o = refl

-- the same, put into a table behind others
pub rows-put : (panel : Text) (next from end : ℕ) (rows : Rows) (table : Text → Rows)
    → ((number : ℕ) → is_remembered next number ≡ true → (from ≤ number) × (number < end)) → (q : Text) (n : ℕ)
    → with_each with_row (map (row_for panel) (filter (λ it. is_remembered next it.number) (rows_between rows from end))) table q n
    ≡ cond (bytes_eq panel q) (or_else (remembered_row next rows n) (table q n)) (table q n)
rows-put panel next from end rows table reaches q n =
    put-each panel q n (filter (λ it. is_remembered next it.number) (rows_between rows from end)) table
    ∙ ap (λ o. cond (bytes_eq panel q) (or_else o (table q n)) (table q n)) (run-remembered next from end n rows reaches)
