-- Ticks and imports bring no names into the tables but the building's.
use Rattle.std.proofs.Common.{◌≡◌, ℕ, zero, suc, Bool, true, false, List, [], ◌∷◌, ◌++◌, map, slice_get, Option, Some, None, ℤ, refl, sym, ap, ◌∙◌, subst, inl, inr}
use Rattle.std.specs.FinMap.{empty}
use Rattle.std.specs.List.{flat_map, list_all, list_any}
use Rattle.std.specs.Str.{bytes_eq}
use Rattle.std.proofs.lemmas.Bool.{cases_Bool, false≢true}
use Rattle.std.proofs.lemmas.List.Folds.{list_any-append}
use Rattle.std.proofs.lemmas.Slice.Eq.{bytes_eq-Decides}
use Rattle.points.specs.PriorityArray.{Places}
use Rattle.building.proofs.RosterLemmas.{among-map}
use Rattle.sched.specs.declared.calendar.CalendarEntry.{CalendarEntry}
use Rattle.building.specs.declared.named_calendar.NamedCalendar.{NamedCalendar}
use Rattle.building.specs.declared.named_schedule.NamedSchedule.{NamedSchedule}
use Rattle.building.specs.ScheduleTable.{is_sound_schedule}
use Rattle.desk_settling.specs.Calendars.{texts_for, with_items}
use Rattle.desk_settling.specs.Settled.{Now, Shown, cleared_by, falls_quiet, is_due, put_by, releases, changes_shown, value_of, written}
use Rattle.store.specs.declared.change.PlaceValue.{PlaceValue}
use Rattle.store.specs.Change.{with_each, with_place, with_shown}
use Rattle.points.specs.Texts.{Text}
use Rattle.building.specs.Building.{Building}
use Rattle.dates.specs.declared.entry.Entry.{Entry}
use Rattle.local_times.specs.declared.local_clock.LocalTime.{LocalTime}
use Rattle.desk_clock.proofs.AddedLemmas.{texts_for-append}
use Rattle.deliveries.specs.Machine.{Machine, added, added_by, added_to, is_known, now_of, settled, writes_at}
use Rattle.deliveries.proofs.AgainLemmas.{both-parts, or-parts, shown-outside}
use Rattle.desk.specs.Opening.{has_calendar, has_point, has_schedule}

-- ---- points

abbrev names_point : Text → PlaceValue → Bool
names_point q item = bytes_eq item.point q

-- values none of which is at a point leave it
places-outside : (q : Text) (values : List PlaceValue) (places : Text → Places) → list_any (names_point q) values ≡ false
    → with_each with_place values places q ≡ places q
places-outside q [] places none = refl
places-outside q (item ∷ values) places none =
    let apart = or-parts (bytes_eq item.point q) (list_any (names_point q) values) none in
    places-outside q values (with_place item places) apart.1 ∙ rw apart.0 refl

-- the targets of a schedule exist
module _ (b : Building) (q : Text) (missing : has_point b q ≡ false) where
  targets-outside : (value : Option ℤ) (schedule : NamedSchedule) (targets : List Text) → list_all (has_point b) targets ≡ true
      → list_any (names_point q) (map (λ point. record { point = point; priority = schedule.priority; value = value }) targets) ≡ false
  targets-outside value schedule [] all = refl
  targets-outside value schedule (point ∷ targets) all =
      let parts = both-parts (has_point b point) (list_all (has_point b) targets) all in
      elim (cases_Bool (bytes_eq point q)) [
        | inl same ↦ absurd (false≢true (sym missing ∙ (ap (has_point b) (sym ((bytes_eq-Decides point q).0 same)) ∙ parts.0)))
        | inr apart ↦ rw apart (targets-outside value schedule targets parts.1)
      ]

  has_targets : (schedule : NamedSchedule) → is_sound_schedule b.points b.calendars schedule ≡ true
      → list_all (has_point b) schedule.targets ≡ true
  has_targets schedule sound = (both-parts _ _ (both-parts _ _ sound).0).1

  cleared-outside : (now : Now) (shown : Shown) (schedule : NamedSchedule) → is_sound_schedule b.points b.calendars schedule ≡ true
      → list_any (names_point q) (cleared_by now shown schedule) ≡ false
  cleared-outside now shown schedule sound = by (falls_quiet now shown schedule) refl (releases schedule.on_leave) refl
    where
      by : (quiet : Bool) → falls_quiet now shown schedule ≡ quiet → (release : Bool) → releases schedule.on_leave ≡ release
          → list_any (names_point q) (cleared_by now shown schedule) ≡ false
      by true e true f = rw (e, f) (targets-outside None schedule schedule.targets (has_targets schedule sound))
      by true e false f = rw (e, f) refl
      by false e release f = rw e refl

  put-outside : (now : Now) (shown : Shown) (schedule : NamedSchedule) → is_sound_schedule b.points b.calendars schedule ≡ true
      → list_any (names_point q) (put_by now shown schedule) ≡ false
  put-outside now shown schedule sound = by (is_due now shown schedule) refl
    where
      by : (due : Bool) → is_due now shown schedule ≡ due → list_any (names_point q) (put_by now shown schedule) ≡ false
      by true e = rw e (targets-outside (value_of now schedule) schedule schedule.targets (has_targets schedule sound))
      by false e = rw e refl

  each-outside : (by : NamedSchedule → List PlaceValue)
      → ((schedule : NamedSchedule) → is_sound_schedule b.points b.calendars schedule ≡ true
      → list_any (names_point q) (by schedule) ≡ false) → (schedules : List NamedSchedule)
      → list_all (is_sound_schedule b.points b.calendars) schedules ≡ true → list_any (names_point q) (flat_map by schedules) ≡ false
  each-outside by outside [] sound = refl
  each-outside by outside (schedule ∷ schedules) sound =
      let parts =
      both-parts (is_sound_schedule b.points b.calendars schedule) (list_all (is_sound_schedule b.points b.calendars) schedules)
      sound in
      let here = outside schedule parts.0 in
      let rest = each-outside by outside schedules parts.1 in
      list_any-append (names_point q) (by schedule) (flat_map by schedules) ∙ rw (here, rest) refl

  written-outside : (now : Now) (shown : Shown) (schedules : List NamedSchedule)
      → list_all (is_sound_schedule b.points b.calendars) schedules ≡ true
      → list_any (names_point q) (written now shown schedules) ≡ false
  unfolding written
  written-outside now shown schedules sound =
      let cleared = each-outside (cleared_by now shown) (cleared-outside now shown) schedules sound in
      let put = each-outside (put_by now shown) (put-outside now shown) schedules sound in
      list_any-append (names_point q) (flat_map (cleared_by now shown) schedules) (flat_map (put_by now shown) schedules)
      ∙ rw (cleared, put) refl

  writes-outside : (imported : Text → List Text) (shown : Shown) (local : Option LocalTime)
      → list_all (is_sound_schedule b.points b.calendars) b.schedules ≡ true
      → list_any (names_point q) (writes_at b imported shown local) ≡ false
  writes-outside imported shown None sound = refl
  writes-outside imported shown (Some local) sound = written-outside (now_of b imported local) shown b.schedules sound

  pub settled-no_point : (m : Machine) (local : Option LocalTime) → list_all (is_sound_schedule b.points b.calendars) b.schedules ≡ true
      → m.places q ≡ empty → (settled b m local).places q ≡ empty
  unfolding settled
  settled-no_point m local sound none =
      places-outside q (writes_at b m.imported m.shown local) m.places (writes-outside m.imported m.shown local sound) ∙ none

-- ---- schedules

changes_shown-outside : (b : Building) (q : Text) → has_schedule b q ≡ false → (now : Now) (shown : Shown)
    → with_each with_shown (changes_shown now shown b.schedules) shown q ≡ shown q
unfolding changes_shown
changes_shown-outside b q missing now shown =
    shown-outside now shown shown b.schedules q (among-map (λ (schedule : NamedSchedule). schedule.name) q b.schedules ∙ missing)

pub settled-no_schedule : (b : Building) (q : Text) → has_schedule b q ≡ false → (m : Machine) (local : Option LocalTime)
    → m.shown q ≡ None → (settled b m local).shown q ≡ None
unfolding settled
settled-no_schedule b q missing m None none = none
settled-no_schedule b q missing m (Some local) none = changes_shown-outside b q missing (now_of b m.imported local) m.shown ∙ none

-- ---- calendars

got-apart : (test : NamedCalendar → Bool) (calendars : List NamedCalendar) (place : ℕ) (calendar : NamedCalendar)
    → list_any test calendars ≡ false
    → slice_get calendars place ≡ Some calendar → test calendar ≡ false
got-apart test [] place calendar none found = absurd cc
got-apart test (first ∷ calendars) zero calendar none found =
    let same : first ≡ calendar = cc in subst (λ c. test c ≡ false) same (or-parts (test first) (list_any test calendars) none).0
got-apart test (first ∷ calendars) (suc place) calendar none found =
    got-apart test calendars place calendar (or-parts (test first) (list_any test calendars) none).1 found

module _ (b : Building) (q : Text) (missing : has_calendar b q ≡ false) where
  added_to-outside : (imported : Text → List Text) (entry : Entry) (calendar : NamedCalendar) → bytes_eq calendar.name q ≡ false
      → texts_for q (added_to imported entry (Some calendar)) ≡ []
  added_to-outside imported entry calendar apart = by (is_known imported calendar entry) refl
    where
      by : (known : Bool) → is_known imported calendar entry ≡ known → texts_for q (added_to imported entry (Some calendar)) ≡ []
      by true e = rw e refl
      by false e = rw (e, apart) refl

  added_by-outside : (imported : Text → List Text) (row : CalendarEntry) → texts_for q (added_by b imported row) ≡ []
  added_by-outside imported row = by (slice_get b.calendars row.calendar.index) refl
    where
      by : (found : Option NamedCalendar) → slice_get b.calendars row.calendar.index ≡ found → texts_for q (added_by b imported row) ≡ []
      by None e = rw e refl
      by (Some calendar) e =
          ap (λ calendar. texts_for q (added_to imported row.entry calendar)) e ∙ added_to-outside imported row.entry calendar
          (got-apart (λ (c : NamedCalendar). bytes_eq c.name q) b.calendars row.calendar.index calendar missing e)

  added-outside : (imported : Text → List Text) (rows : List CalendarEntry) → texts_for q (added b imported rows) ≡ []
  added-outside imported [] = refl
  added-outside imported (row ∷ rows) =
      let items = added_by b imported row in
      texts_for-append q items (added b (with_items imported items) rows)
      ∙ ((λ i. added_by-outside imported row i ++ texts_for q (added b (with_items imported items) rows))
      ∙ added-outside (with_items imported items) rows)

  pub imported-no_calendar : (imported : Text → List Text) (rows : List CalendarEntry) → imported q ≡ []
      → with_items imported (added b imported rows) q ≡ []
  imported-no_calendar imported rows none =
      (λ i. none i ++ texts_for q (added b imported rows)) ∙ added-outside imported rows
