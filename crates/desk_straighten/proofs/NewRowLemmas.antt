-- The rows that one row more adds.
use Rattle.std.proofs.Common.{◌≡◌, ℕ, ◌+◌, ◌<◌, ◌≤◌, ◌++◌, ◌∷◌, true, false, List, [], drop, length, nat_lt, refl, sym, ap, ◌∙◌}
use Rattle.std.proofs.Common.{append_assoc, arith}
use Rattle.std.proofs.lemmas.Bool.Decides.{nat_tests}
use Rattle.std.proofs.lemmas.List.{length-append}
use Rattle.building.specs.Building.{Building}
use Rattle.desk_clock.proofs.AddedLemmas.{with_items-append}
use Rattle.deliveries.specs.Machine.{added_by}
use Rattle.sched.specs.declared.calendar.CalendarEntry.{CalendarEntry}
use Rattle.desk_settling.specs.Calendars.{with_items}
use Rattle.store.specs.declared.change.ImportedEntry.{ImportedEntry}
use Rattle.points.specs.Texts.{Text}
use Rattle.deliveries.specs.Cut.{added_rows, row_that_adds}
use Rattle.desk_straighten.specs.Steps.{row_if}

row_if-adds : (row : CalendarEntry) (old items new : List ImportedEntry) → new ≡ old ++ items
    → row_if (nat_lt (length old) (length new)) row ≡ row_that_adds row items
row_if-adds row old [] new is =
    let long = ap length is ∙ length-append old [] in
    let same : nat_lt (length old) (length new) ≡ false = grind (arith, nat_tests) in
    rw same refl
row_if-adds row old (item ∷ items) new is =
    let long = ap length is ∙ length-append old (item ∷ items) in
    let more : nat_lt (length old) (length new) ≡ true = grind (arith, nat_tests) in
    rw more refl

pub rows-more : (b : Building) (imported : Text → List Text) (rows : List CalendarEntry) (i : ℕ) (row : CalendarEntry)
    (old new : List ImportedEntry) (kept grown all : List CalendarEntry)
    → drop i rows ≡ row ∷ drop (i + 1) rows → new ≡ old ++ added_by b (with_items imported old) row
    → grown ≡ kept ++ row_if (nat_lt (length old) (length new)) row
    → kept ++ added_rows b (with_items imported old) (drop i rows) ≡ all
    → grown ++ added_rows b (with_items imported new) (drop (i + 1) rows) ≡ all
rows-more b imported rows i row old new kept grown all next is keeps so_far =
    let items = added_by b (with_items imported old) row in
    let rest = drop (i + 1) rows in
    ap (λ front. front ++ added_rows b (with_items imported new) rest) (keeps
    ∙ ap (λ here. kept ++ here) (row_if-adds row old items new is))
    ∙ (append_assoc kept (row_that_adds row items) (added_rows b (with_items imported new) rest)
    ∙ (ap (λ now. kept ++ (row_that_adds row items ++ added_rows b now rest)) (ap (with_items imported) is
    ∙ sym (with_items-append imported old items))
    ∙ (ap (λ left. kept ++ added_rows b (with_items imported old) left) (sym next) ∙ so_far)))

pub row_if-yes : (row : CalendarEntry) (old new : List ImportedEntry) (m n : ℕ) → m ≡ length old → n ≡ length new → m < n
    → row_if (nat_lt (length old) (length new)) row ≡ row ∷ []
row_if-yes row old new m n first second more =
    let yes : nat_lt (length old) (length new) ≡ true = grind (arith, nat_tests) in rw yes refl

pub row_if-no : (row : CalendarEntry) (old new : List ImportedEntry) (m n : ℕ) → m ≡ length old → n ≡ length new → n ≤ m
    → row_if (nat_lt (length old) (length new)) row ≡ []
row_if-no row old new m n first second more =
    let no : nat_lt (length old) (length new) ≡ false = grind (arith, nat_tests) in rw no refl
