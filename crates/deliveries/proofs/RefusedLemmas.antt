-- Rows of which none is refused have their calendars.
use Rattle.std.proofs.Common.{◌≡◌, Bool, true, false, not, List, [], ◌∷◌, ◌&&◌, ◌||◌, is_some, length, nat_lt, rules, refl, ap, ◌∙◌}
use Rattle.std.specs.List.{list_all, position_or_len}
use Rattle.building.specs.Building.{Building}
use Rattle.sched.specs.declared.calendar.CalendarEntry.{CalendarEntry}
use Rattle.deliveries.specs.Events.{has_calendar}
use Rattle.deliveries.specs.Reply.{refused_record}

refused-cons : (test : CalendarEntry → Bool) (row : CalendarEntry) (rows : List CalendarEntry)
    → nat_lt (position_or_len (λ x. not (test x)) (row ∷ rows)) (length (row ∷ rows))
    ≡ (not (test row) || nat_lt (position_or_len (λ x. not (test x)) rows) (length rows))
refused-cons test row rows = by (test row) refl
  where
    by : (here : Bool) → test row ≡ here → nat_lt (position_or_len (λ x. not (test x)) (row ∷ rows)) (length (row ∷ rows))
        ≡ (not (test row) || nat_lt (position_or_len (λ x. not (test x)) rows) (length rows))
    by true e = rw e (search rules)
    by false e = rw e (search rules)

some-refused : (test : CalendarEntry → Bool) (rows : List CalendarEntry)
    → nat_lt (position_or_len (λ x. not (test x)) rows) (length rows) ≡ not (list_all test rows)
some-refused test [] = refl
some-refused test (row ∷ rows) =
    refused-cons test row rows ∙ (ap (λ b. not (test row) || b) (some-refused test rows) ∙ turned (test row) (list_all test rows))
  where
    turned : (a b : Bool) → (not a || not b) ≡ not (a && b)
    turned true b = refl
    turned false b = refl

pub refused-at : (b : Building) (rows : List CalendarEntry) → is_some (refused_record b rows) ≡ not (list_all (has_calendar b) rows)
refused-at b rows =
    by (nat_lt (position_or_len (λ row. not (has_calendar b row)) rows) (length rows)) refl ∙ some-refused (has_calendar b) rows
  where
    by : (some : Bool) → nat_lt (position_or_len (λ row. not (has_calendar b row)) rows) (length rows) ≡ some
        → is_some (refused_record b rows) ≡ nat_lt (position_or_len (λ row. not (has_calendar b row)) rows) (length rows)
    by true e = rw e refl
    by false e = rw e refl
