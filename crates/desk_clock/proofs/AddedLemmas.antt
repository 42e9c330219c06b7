-- The items that one row more adds.
use Rattle.std.proofs.Common.{◌≡◌, ℕ, ◌+◌, ◌++◌, ◌∷◌, List, [], drop, refl, sym, ap, ◌∙◌, append_assoc}
use Rattle.std.proofs.Math.Path.{fun_ext}
use Rattle.building.specs.Building.{Building}
use Rattle.deliveries.specs.Machine.{added, added_by}
use Rattle.sched.specs.declared.calendar.CalendarEntry.{CalendarEntry}
use Rattle.desk_settling.specs.Calendars.{texts_for, with_items}
use Rattle.std.proofs.lemmas.Bool.{cases_Bool}
use Rattle.std.proofs.Common.{bytes_eq, inl, inr}
use Rattle.store.specs.declared.change.ImportedEntry.{ImportedEntry}
use Rattle.points.specs.Texts.{Text}

pub texts_for-append : (calendar : Text) (xs ys : List ImportedEntry)
    → texts_for calendar (xs ++ ys) ≡ texts_for calendar xs ++ texts_for calendar ys
texts_for-append calendar [] ys = refl
texts_for-append calendar (x ∷ xs) ys = elim (cases_Bool (bytes_eq x.calendar calendar)) [
  | inl here ↦ let more = texts_for-append calendar xs ys in rw (here, more) refl
  | inr apart ↦ let more = texts_for-append calendar xs ys in rw (apart, more) refl
]

pub with_items-append : (imported : Text → List Text) (xs ys : List ImportedEntry)
    → with_items (with_items imported xs) ys ≡ with_items imported (xs ++ ys)
with_items-append imported xs ys = fun_ext (λ calendar.
    append_assoc (imported calendar) (texts_for calendar xs) (texts_for calendar ys)
    ∙ ap (λ texts. imported calendar ++ texts) (sym (texts_for-append calendar xs ys)))

-- what was added so far, and what the rest adds, with one row of the rest
added-cons : (b : Building) (imported : Text → List Text) (row : CalendarEntry) (rest : List CalendarEntry) (old new : List ImportedEntry)
    → new ≡ old ++ added_by b (with_items imported old) row
    → new ++ added b (with_items imported new) rest ≡ old ++ added b (with_items imported old) (row ∷ rest)
added-cons b imported row rest old new is =
    let items = added_by b (with_items imported old) row in
    ap (λ all. all ++ added b (with_items imported all) rest) is
    ∙ (append_assoc old items (added b (with_items imported (old ++ items)) rest)
    ∙ ap (λ texts. old ++ (items ++ added b texts rest)) (sym (with_items-append imported old items)))

pub added-more : (b : Building) (imported : Text → List Text) (rows : List CalendarEntry) (i : ℕ) (row : CalendarEntry)
    (old new all : List ImportedEntry)
    → drop i rows ≡ row ∷ drop (i + 1) rows → new ≡ old ++ added_by b (with_items imported old) row
    → old ++ added b (with_items imported old) (drop i rows) ≡ all
    → new ++ added b (with_items imported new) (drop (i + 1) rows) ≡ all
added-more b imported rows i row old new all next is so_far =
    added-cons b imported row (drop (i + 1) rows) old new is
    ∙ (ap (λ rest. old ++ added b (with_items imported old) rest) (sym next) ∙ so_far)
