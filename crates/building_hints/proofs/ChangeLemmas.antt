-- Where no row holds on a day, nothing changes on it.
use Rattle.std.proofs.Common.{◌≡◌, ◌∙◌, ℕ, zero, suc, ◌+◌, ◌==◌, nat_le, ◌≤◌, Bool, true, false, not, ◌&&◌, ◌||◌, List, [], ◌∷◌, ◌++◌, refl, sym, ap, inl, inr, arith, add-one, slice_get, unwrap_or, option_and_then}
use Rattle.std.proofs.Math.Path.{fun_ext}
use Rattle.std.proofs.lemmas.Bool.{and_from, cases_Bool, le-leb, or_parts}
use Rattle.std.proofs.lemmas.Bool.Decides.{nat_tests}
use Rattle.std.proofs.lemmas.List.Folds.{list_any-append}
use Rattle.std.specs.Cmp.Lexicographic.{pointwise}
use Rattle.std.specs.List.{flat_map, list_any}
use Rattle.jiff_core.specs.Weekday.{monday_zero}
use Rattle.jiff_core.specs.declared.civil.date.Date.{Date}
use Rattle.jiff_core.specs.declared.civil.weekday.Weekday.{Weekday}
use Rattle.jiff_core.specs.declared.civil.weekday.Weekday.TheVariants.{Monday, Tuesday, Wednesday, Thursday, Friday, Saturday, Sunday}
use Rattle.dates.specs.Entry.{holds_on}
use Rattle.dates.specs.Weekday.{weekday_text}
use Rattle.points.specs.Texts.{Text}
use Rattle.sched.specs.Calendar.{hold_on}
use Rattle.sched.specs.Exceptions.{exception_now, gives_way_to_lower}
use Rattle.sched.specs.DayList.{list_value}
use Rattle.sched.specs.Chosen.{chosen}
use Rattle.sched.specs.Schedule.{first_value, is_active, schedule_value, weekday_list}
use Rattle.sched.specs.Segments.{segments_of}
use Rattle.sched.specs.declared.calendar.Calendar.{Calendar}
use Rattle.sched.specs.declared.calendar.CalendarEntry.{CalendarEntry}
use Rattle.sched.specs.declared.day_list.TimeValue.{TimeValue}
use Rattle.sched.specs.declared.schedule.Schedule.{Schedule}
use Rattle.sched.proofs.HoldLemmas.{speaks-same}
use Rattle.sched.proofs.SegmentLemmas.{value_eq-same}
use Rattle.building.specs.declared.named_calendar.NamedCalendar.{NamedCalendar}
use Rattle.building.specs.declared.named_schedule.NamedSchedule.{NamedSchedule}
use Rattle.building_hints.specs.ChangedDays.{change_hint, day_hints, each_between, entries_for, same_segment, segments_on, weekday_names, with_rows}

pub named_weekday : (weekday : Weekday) → weekday_text weekday ≡ unwrap_or (slice_get weekday_names (monday_zero weekday)) []
named_weekday Monday = refl
named_weekday Tuesday = refl
named_weekday Wednesday = refl
named_weekday Thursday = refl
named_weekday Friday = refl
named_weekday Saturday = refl
named_weekday Sunday = refl

-- ---- one number more

pub each-before : (first n : ℕ) (text : ℕ → Text) → n ≤ first → each_between first n text ≡ []
unfolding each_between
each-before first zero text h = refl
each-before first (suc n) text h =
    let past : nat_le first n ≡ false = grind (arith, nat_tests) in
    rw past (rw (each-before first n text (omega arith)) refl)

pub each-more : (first n : ℕ) (text : ℕ → Text) → first ≤ n → each_between first (n + 1) text ≡ each_between first n text ++ text n
unfolding each_between
each-more first n text h = rw add-one (rw (le-leb first n h) refl)

-- ---- the calendars hold as before

no_entry : (rows : List CalendarEntry) (day : Date) (index : ℕ) → list_any (λ row. holds_on row.entry day) rows ≡ false
    → list_any (λ entry. holds_on entry day) (entries_for index rows) ≡ false
no_entry [] day index none = refl
no_entry (row ∷ rows) day index none =
    let parts = or_parts (holds_on row.entry day) _ none in
    let rest = no_entry rows day index parts.1 in
    elim (cases_Bool (row.calendar.index == index)) [
      | inl its ↦ rw its (rw parts.0 rest)
      | inr other ↦ rw other rest
    ]

same_holds : (rows : List CalendarEntry) (day : Date) (index : ℕ) (named : NamedCalendar)
    → list_any (λ row. holds_on row.entry day) rows ≡ false
    → list_any (λ entry. holds_on entry day) (named.calendar.entries ++ [])
    ≡ list_any (λ entry. holds_on entry day) (named.calendar.entries ++ entries_for index rows)
same_holds rows day index named none =
    list_any-append (λ entry. holds_on entry day) named.calendar.entries []
    ∙ ap (λ b. list_any (λ entry. holds_on entry day) named.calendar.entries || b) (sym (no_entry rows day index none))
    ∙ sym (list_any-append (λ entry. holds_on entry day) named.calendar.entries (entries_for index rows))

pub same_days : (rows : List CalendarEntry) (day : Date) (index : ℕ) (calendars : List NamedCalendar)
    → list_any (λ row. holds_on row.entry day) rows ≡ false
    → hold_on day (with_rows [] index calendars) ≡ hold_on day (with_rows rows index calendars)
same_days rows day index [] none = refl
same_days rows day index (named ∷ rest) none =
    λ i. same_holds rows day index named none i ∷ same_days rows day (index + 1) rest none i

-- ---- so no value changes

same_value : (schedule : Schedule) (one two : List Calendar) (day : Date) (time : ℕ) → hold_on day one ≡ hold_on day two
    → schedule_value schedule one day time ≡ schedule_value schedule two day time
unfolding schedule_value exception_now
same_value schedule one two day time same =
    ap (λ speaks. first_value (option_and_then (λ exception. list_value exception.times time) (chosen speaks gives_way_to_lower schedule.exceptions))
    (first_value (list_value (weekday_list schedule day) time) schedule.default)) (speaks-same day time one two same)

pub same_segments : (schedule : Schedule) (one two : List Calendar) (day : Date) → hold_on day one ≡ hold_on day two
    → segments_on day schedule one ≡ segments_on day schedule two
same_segments schedule one two day same = ap segments_of (fun_ext (λ (time : ℕ). same_value schedule one two day time same))

self_same : (segments : List TimeValue) → pointwise same_segment segments segments ≡ true
self_same [] = refl
self_same (x ∷ xs) = and_from _ _ (and_from _ _ (self x.time) (value_eq-same x.value)) (self_same xs)
  where
    self : (n : ℕ) → (n == n) ≡ true
    self n = grind (arith, nat_tests)

and_not : (a b : Bool) → b ≡ true → (a && not b) ≡ false
and_not true b e = ap not e
and_not false b e = refl

no_change : (one two : List Calendar) (day : Date) (schedule : NamedSchedule) → hold_on day one ≡ hold_on day two
    → change_hint one two day schedule ≡ []
no_change one two day schedule same =
    let segments = same_segments schedule.schedule one two day same in
    let alike : pointwise same_segment (segments_on day schedule.schedule one) (segments_on day schedule.schedule two) ≡ true =
    ap (λ s. pointwise same_segment (segments_on day schedule.schedule one) s) (sym segments) ∙ self_same (segments_on day schedule.schedule one) in
    rw (and_not (is_active schedule.schedule day) _ alike) refl

no_changes : (one two : List Calendar) (day : Date) (schedules : List NamedSchedule) → hold_on day one ≡ hold_on day two
    → flat_map (change_hint one two day) schedules ≡ []
no_changes one two day [] same = refl
no_changes one two day (schedule ∷ schedules) same =
    ap (λ text. text ++ flat_map (change_hint one two day) schedules) (no_change one two day schedule same)
    ∙ no_changes one two day schedules same

pub no_hints : (calendars : List NamedCalendar) (schedules : List NamedSchedule) (rows : List CalendarEntry) (day : Date)
    → list_any (λ row. holds_on row.entry day) rows ≡ false → day_hints calendars schedules rows day ≡ []
no_hints calendars schedules rows day none =
    no_changes (with_rows [] 0 calendars) (with_rows rows 0 calendars) day schedules (same_days rows day 0 calendars none)
