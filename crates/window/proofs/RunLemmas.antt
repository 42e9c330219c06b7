-- What a run of rows tells of what was accepted.
use Rattle.std.proofs.Common.{◌≡◌, ℕ, suc, zero, ◌+◌, ◌-◌, ◌<◌, ◌≤◌, ◌≢◌, true, false, List, length, Option, Some, None, is_some, refl, sym, ap, ◌∙◌}
use Rattle.std.proofs.Common.{arith, inl, inr, nat_lt}
use Rattle.std.proofs.lemmas.Bool.Decides.{nat_tests}
use Rattle.std.proofs.lemmas.Bool.{cases_eq, false≢true}
use Rattle.points.specs.declared.command_row.CommandRow.{CommandRow}
use Rattle.points.specs.declared.numbered_row.NumberedRow.{NumberedRow}
use Rattle.points.specs.Run.{Rows, IsRun, row_before, rows_from}
use Rattle.window.specs.Applied.{and_at, contents_from}
use Rattle.window.specs.Drain.{contents_of, end_of}
use Rattle.window.specs.Taken.{Taken, content_at, is_key, front}
use Rattle.window.specs.View.{Keeps, content_of_row}
use Rattle.window.specs.Window.{remembered}
use Rattle.window.proofs.DrainLemmas.{next_after-same, next_after-apart}

-- where a run ends

end_of-row_before-same : (row : Option CommandRow) (from next : ℕ) (rest : List NumberedRow) → from ≡ next → is_some row ≡ true
    → end_of next (row_before from row rest) ≡ end_of (next + 1) rest
end_of-row_before-same None from next rest same here = absurd (false≢true here)
end_of-row_before-same (Some row) from next rest same here =
    ap (λ after. end_of after rest) (next_after-same next (record { number = from; row = row }) same)

end_of-row_before-apart : (row : Option CommandRow) (from next : ℕ) (rest : List NumberedRow) → from ≢ next
    → end_of next (row_before from row rest) ≡ end_of next rest
end_of-row_before-apart None from next rest apart = refl
end_of-row_before-apart (Some row) from next rest apart =
    ap (λ after. end_of after rest) (next_after-apart next (record { number = from; row = row }) apart)

end_of-rows_from : (count : ℕ) (rows : Rows) (from next : ℕ) → from ≤ next → next ≤ from + count
    → ((number : ℕ) → next ≤ number → number < from + count → is_some (rows number) ≡ true)
    → end_of next (rows_from count rows from) ≡ from + count
end_of-rows_from zero rows from next low high unbroken = omega arith
end_of-rows_from (suc count) rows from next low high unbroken =
    let rest = rows_from count rows (from + 1) in
    let past : from + 1 + count ≡ from + suc count = omega arith in
    elim (cases_eq from next) [
      | inl same ↦
          let here : is_some (rows from) ≡ true = unbroken from (omega arith) (omega arith) in
          end_of-row_before-same (rows from) from next rest same here
          ∙ (end_of-rows_from count rows (from + 1) (next + 1) (omega arith) (omega arith)
          (λ number least below. unbroken number (omega arith) (omega arith)) ∙ past)
      | inr apart ↦
          end_of-row_before-apart (rows from) from next rest apart
          ∙ (end_of-rows_from count rows (from + 1) next (omega arith) (omega arith)
          (λ number least below. unbroken number least (omega arith)) ∙ past)
    ]

pub end_of-run : (rows : Rows) (from upto : ℕ) (run : List NumberedRow) → from ≤ upto → (is : IsRun rows from upto run)
    → end_of upto run ≡ is.end
end_of-run rows from upto run ordered is =
    let reaches = is.reaches in
    let past : from + (is.end - from) ≡ is.end = omega arith in
    ap (end_of upto) is.is_between
    ∙ (end_of-rows_from (is.end - from) rows from upto ordered (omega arith)
    (λ number least below. is.unbroken number least (omega arith)) ∙ past)

-- what a run's rows hold

contents_of-row_before : (row : Option CommandRow) (from : ℕ) (rest : List NumberedRow)
    → contents_of (row_before from row rest) ≡ and_at from (content_of_row row) (contents_of rest)
contents_of-row_before None from rest = refl
contents_of-row_before (Some row) from rest = refl

pub contents_of-rows_from : (count : ℕ) (rows : Rows) (t : Taken) (from : ℕ)
    → ((number : ℕ) → from ≤ number → content_of_row (rows number) ≡ content_at t number)
    → contents_of (rows_from count rows from) ≡ contents_from count t from
contents_of-rows_from zero rows t from agree = refl
contents_of-rows_from (suc count) rows t from agree =
    contents_of-row_before (rows from) from (rows_from count rows (from + 1))
    ∙ (ap (λ content. and_at from content (contents_of (rows_from count rows (from + 1)))) (agree from (omega arith))
    ∙ ap (and_at from (content_at t from)) (contents_of-rows_from count rows t (from + 1) (λ number least. agree number (omega arith))))

length-row_before : (row : Option CommandRow) (from : ℕ) (rest : List NumberedRow) → length (row_before from row rest) ≤ length rest + 1
length-row_before None from rest = omega arith
length-row_before (Some row) from rest = omega arith

pub length-rows_from : (count : ℕ) (rows : Rows) (from : ℕ) → length (rows_from count rows from) ≤ count
length-rows_from zero rows from = omega arith
length-rows_from (suc count) rows from =
    omega (arith, length-row_before (rows from) from (rows_from count rows (from + 1)), length-rows_from count rows (from + 1))

-- rows that keep what was accepted

pub Keeps-remembered : (rows : Rows) (t : Taken) (n : ℕ) → Keeps rows t → nat_lt n (front t - remembered) ≡ false
    → content_of_row (rows n) ≡ content_at t n
Keeps-remembered rows t n keeps known = keeps n ∙ rw known refl

pub Keeps-from_front : (rows : Rows) (t : Taken) (n : ℕ) → Keeps rows t → front t ≤ n → content_of_row (rows n) ≡ content_at t n
Keeps-from_front rows t n keeps from = Keeps-remembered rows t n keeps (grind (arith, nat_tests))

is_some-content_of_row : (row : Option CommandRow) → is_some (content_of_row row) ≡ is_some row
is_some-content_of_row None = refl
is_some-content_of_row (Some row) = refl

pub is_some-rows : (rows : Rows) (t : Taken) (n : ℕ) → content_of_row (rows n) ≡ content_at t n → is_some (rows n) ≡ is_key t n
is_some-rows rows t n same = sym (is_some-content_of_row (rows n)) ∙ ap is_some same
