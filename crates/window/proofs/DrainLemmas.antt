-- One step of the loop that drains a run.
use Rattle.std.proofs.Common.{◌≡◌, ℕ, suc, ◌+◌, ◌<◌, ◌≤◌, ◌≢◌, ◌++◌, List, [], ◌∷◌, length, drop, get_or, sym, ap, ◌∙◌, append_assoc, append-nil}
use Rattle.std.proofs.Common.{add-one, drop-cons, arith}
use Rattle.std.proofs.Math.ListN.{drop_of_length-le}
use Rattle.std.proofs.lemmas.Bool.Decides.{nat_tests}
use Rattle.points.specs.declared.content.Content.{Content}
use Rattle.points.specs.declared.numbered_row.NumberedRow.{NumberedRow}
use Rattle.window.specs.declared.numbered_content.NumberedContent.{NumberedContent}
use Rattle.window.specs.Drain.{content_of, contents_of, next_after, end_of}

pub next_row : (run : List NumberedRow) (i : ℕ) (entry : NumberedRow) → i < length run → entry ≡ get_or run i entry
    → drop i run ≡ entry ∷ drop (i + 1) run
next_row run i entry within is = rw add-one (drop-cons run i entry within ∙ ap (λ e. e ∷ drop (suc i) run) (sym is))

-- the contents so far, the one of this row, and those that are left
pub contents_step : (run : List NumberedRow) (i : ℕ) (entry : NumberedRow) (copied : Content) (before after all : List NumberedContent)
    → i < length run → entry ≡ get_or run i entry → before ++ contents_of (drop i run) ≡ all
    → copied ≡ entry.row.content → after ≡ before ++ record { number = entry.number; content = copied } ∷ []
    → after ++ contents_of (drop (i + 1) run) ≡ all
contents_step run i entry copied before after all within is so_far same pushed =
    let rest = contents_of (drop (i + 1) run) in
    ap (λ contents. contents ++ rest)
    (pushed ∙ ap (λ (content : Content). before ++ record { number = entry.number; content = content } ∷ []) same)
    ∙ (append_assoc before (content_of entry ∷ []) rest
    ∙ (sym (ap (λ left. before ++ contents_of left) (next_row run i entry within is)) ∙ so_far))

pub next_after-same : (next : ℕ) (entry : NumberedRow) → entry.number ≡ next → next_after next entry ≡ next + 1
next_after-same next entry same = grind (arith, nat_tests)

pub next_after-apart : (next : ℕ) (entry : NumberedRow) → entry.number ≢ next → next_after next entry ≡ next
next_after-apart next entry apart = grind (arith, nat_tests)

-- where the rest of the run ends, behind a row at the next number and behind another
pub end_step-same : (run : List NumberedRow) (i : ℕ) (entry : NumberedRow) (next after end : ℕ)
    → i < length run → entry ≡ get_or run i entry → end_of next (drop i run) ≡ end → entry.number ≡ next → after ≡ next + 1
    → end_of after (drop (i + 1) run) ≡ end
end_step-same run i entry next after end within is so_far same moved =
    ap (λ n. end_of n (drop (i + 1) run)) (moved ∙ sym (next_after-same next entry same))
    ∙ (sym (ap (end_of next) (next_row run i entry within is)) ∙ so_far)

pub end_step-apart : (run : List NumberedRow) (i : ℕ) (entry : NumberedRow) (next after end : ℕ)
    → i < length run → entry ≡ get_or run i entry → end_of next (drop i run) ≡ end → entry.number ≢ next → after ≡ next
    → end_of after (drop (i + 1) run) ≡ end
end_step-apart run i entry next after end within is so_far apart stayed =
    ap (λ n. end_of n (drop (i + 1) run)) (stayed ∙ sym (next_after-apart next entry apart))
    ∙ (sym (ap (end_of next) (next_row run i entry within is)) ∙ so_far)

pub drained-contents : (run : List NumberedRow) (i : ℕ) (before all : List NumberedContent) → length run ≤ i
    → before ++ contents_of (drop i run) ≡ all → before ≡ all
drained-contents run i before all past so_far =
    sym (append-nil before) ∙ (sym (ap (λ rest. before ++ contents_of rest) (drop_of_length-le run past)) ∙ so_far)

pub drained-end : (run : List NumberedRow) (i next end : ℕ) → length run ≤ i → end_of next (drop i run) ≡ end → next ≡ end
drained-end run i next end past so_far = sym (ap (end_of next) (drop_of_length-le run past)) ∙ so_far
