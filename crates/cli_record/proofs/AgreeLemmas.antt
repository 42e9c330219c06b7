-- No difference is found just where tables agree.
use Rattle.std.proofs.Common.{◌≡◌, ◌∙◌, ℕ, zero, suc, ◌-◌, ◌≤◌, ◌<◌, ◌==◌, min, max, Bool, true, false, None, Some, List, [], ◌∷◌, ◌++◌, map, refl, sym, ap, subst, arith}
use Rattle.std.specs.Bool.{IsTrue}
use Rattle.std.specs.FinMap.{get}
use Rattle.std.specs.List.{AllZip, Contains, flat_map, slice_get}
use Rattle.std.specs.Cmp.{decided}
use Rattle.std.specs.Str.{bytes_eq}
use Rattle.std.proofs.lemmas.Bool.Decides.{Decides-eqb}
use Rattle.std.proofs.Math.Nat.{le-max_right, max-eq_left, min-eq_left}
use Rattle.std.proofs.lemmas.Grind.{flat_map-append}
use Rattle.std.proofs.lemmas.Map.Views.{Contains-from_any, list_any-from_Contains}
use Rattle.std.proofs.lemmas.Slice.Eq.{bytes_eq-Decides}
use Rattle.building.specs.declared.named_calendar.NamedCalendar.{NamedCalendar}
use Rattle.building.specs.declared.named_schedule.NamedSchedule.{NamedSchedule}
use Rattle.dates.specs.declared.entry.Entry.{Entry}
use Rattle.dates.specs.Entry.{spelling}
use Rattle.points.specs.declared.panel.Panel.{Panel}
use Rattle.points.specs.declared.point.Point.{Point}
use Rattle.store.specs.Listed.{AreEntries}
use Rattle.store.specs.Tables.{Tables}
use Rattle.points.specs.Texts.{Text}
use Rattle.cli_record.specs.Agreeing.{Agree, AgreeAtPanel, AgreeAtPoint, NoDifferenceWhereTablesAgree, NoPlaceWherePointsAgree}
use Rattle.cli_record.specs.declared.difference.Difference.{Difference}
use Rattle.cli_record.specs.declared.difference.Difference.TheVariants.{Command, LastTick, NextNumber, NotRecorded, Place, RecordedAlone, Shown}
use Rattle.cli_record.specs.Differences.{OfCalendar, between, end_number, first_number, first_place, is_among, numbers_of, of_command, of_entries, of_last_tick, of_next, of_panel, of_point, of_schedule, of_value, same_row, same_shown, same_value}
use Rattle.cli_record.specs.Unless.{unless}
use Rattle.cli_record.proofs.NothingLemmas.{all-none, both-none, no-both, none-at, none-in, none-unless, range-none, unless-none}
use Rattle.cli_record.proofs.SameLemmas.{row-Decides, shown-Decides, value-Decides}

-- ---- a panel

-- both next numbers are one: then its numbers stand in the first part of the list
in_numbers : {A : Type 0} (f : ℕ → List A) (next : ℕ) → flat_map f (numbers_of next next) ≡ []
    → (number : ℕ) → first_number next ≤ number → number < end_number next → f number ≡ []
in_numbers f next none number low high =
    let first = between (first_number next) (end_number next) in
    let second = between (max (first_number next) (end_number next)) (end_number next) in
    let part = (no-both (flat_map f first) (flat_map f second) (sym (flat_map-append f first second) ∙ none)).0 in
    none-in f (first_number next) (end_number next - first_number next) part number low (omega (arith, low, high))

numbers_none : {A : Type 0} (f : ℕ → List A) (next : ℕ)
    → ((number : ℕ) → first_number next ≤ number → number < end_number next → f number ≡ []) → flat_map f (numbers_of next next) ≡ []
numbers_none f next each =
    let from = first_number next in
    let end = end_number next in
    let later = max from end in
    flat_map-append f (between from end) (between later end)
    ∙ both-none (flat_map f (between from end)) (flat_map f (between later end))
    (range-none f from (end - from) (λ number low high. each number low (omega (arith, low, high))))
    (range-none f later (end - later) (λ number low high. absurd (let after = le-max_right from end in omega (arith, low, high, after))))

min-same : (n : ℕ) → min n n ≡ n
min-same n = min-eq_left (omega arith)

max-same : (n : ℕ) → max n n ≡ n
max-same n = max-eq_left (omega arith)

one_next : (ours theirs : ℕ) → ours ≡ theirs → numbers_of (min ours theirs) (max ours theirs) ≡ numbers_of ours ours
one_next ours theirs is =
    ap (λ n. numbers_of (min ours n) (max ours n)) (sym is) ∙ ap (λ n. numbers_of n (max ours ours)) (min-same ours)
    ∙ ap (numbers_of ours) (max-same ours)

panel-agrees : (held recorded : Tables) (panel : Panel) → of_panel held recorded panel ≡ [] → AgreeAtPanel held recorded panel
panel-agrees held recorded panel none =
    let name = panel.name in
    let ours = held.next name in
    let theirs = recorded.next name in
    let of_row = of_command name (held.row name) (recorded.row name) in
    let parts = no-both (of_next name ours theirs) (flat_map of_row (numbers_of (min ours theirs) (max ours theirs))) none in
    let same : ours ≡ theirs = (Decides-eqb ours theirs).0 (unless-none (ours == theirs) (NextNumber name ours theirs) parts.0) in
    let rows : flat_map of_row (numbers_of ours ours) ≡ [] = ap (flat_map of_row) (sym (one_next ours theirs same)) ∙ parts.1 in
    record {
      next = same;
      rows = λ number low high. (row-Decides (held.row name number) (recorded.row name number)).0
          (unless-none (same_row (held.row name number) (recorded.row name number)) (Command name number)
          (in_numbers of_row ours rows number low high));
    }

panel-none : (held recorded : Tables) (panel : Panel) → AgreeAtPanel held recorded panel → of_panel held recorded panel ≡ []
panel-none held recorded panel agree =
    let name = panel.name in
    let ours = held.next name in
    let theirs = recorded.next name in
    let of_row = of_command name (held.row name) (recorded.row name) in
    let rows : flat_map of_row (numbers_of ours ours) ≡ [] =
    numbers_none of_row ours (λ number low high.
    none-unless (same_row (held.row name number) (recorded.row name number)) (Command name number)
    ((row-Decides (held.row name number) (recorded.row name number)).1 (agree.rows number low high))) in
    both-none (of_next name ours theirs) (flat_map of_row (numbers_of (min ours theirs) (max ours theirs)))
    (none-unless (ours == theirs) (NextNumber name ours theirs) ((Decides-eqb ours theirs).1 agree.next))
    (ap (flat_map of_row) (one_next ours theirs agree.next) ∙ rows)

-- ---- a point, and a schedule

abbrev of_priority : Tables → Tables → Point → ℕ → List Difference
of_priority held recorded point priority =
    of_value point.name priority (get (held.places point.name) priority) (get (recorded.places point.name) priority)

point-agrees : (held recorded : Tables) (point : Point) → of_point held recorded point ≡ [] → AgreeAtPoint held recorded point
point-agrees held recorded point none priority low high =
    let ours = get (held.places point.name) priority in
    let theirs = get (recorded.places point.name) priority in
    (value-Decides ours theirs).0 (unless-none (same_value ours theirs) (Place point.name priority ours theirs)
    (none-in (of_priority held recorded point) 1 16 none priority low (omega (arith, high))))

point-none : (held recorded : Tables) (point : Point) → AgreeAtPoint held recorded point → of_point held recorded point ≡ []
point-none held recorded point agree =
    range-none (of_priority held recorded point) 1 16 (λ priority low high.
    let ours = get (held.places point.name) priority in
    let theirs = get (recorded.places point.name) priority in
    none-unless (same_value ours theirs) (Place point.name priority ours theirs)
    ((value-Decides ours theirs).1 (agree priority low (omega (arith, high)))))

schedule-agrees : (held recorded : Tables) (schedule : NamedSchedule) → of_schedule held recorded schedule ≡ []
    → held.shown schedule.name ≡ recorded.shown schedule.name
schedule-agrees held recorded schedule none =
    let ours = held.shown schedule.name in
    let theirs = recorded.shown schedule.name in
    (shown-Decides ours theirs).0 (unless-none (same_shown ours theirs) (Shown schedule.name) none)

schedule-none : (held recorded : Tables) (schedule : NamedSchedule) → held.shown schedule.name ≡ recorded.shown schedule.name
    → of_schedule held recorded schedule ≡ []
schedule-none held recorded schedule agree =
    let ours = held.shown schedule.name in
    let theirs = recorded.shown schedule.name in
    none-unless (same_shown ours theirs) (Shown schedule.name) ((shown-Decides ours theirs).1 agree)

-- ---- a calendar

-- each text of the ones is one of the others
all-among : (f : Entry → Difference) (ones others : List Entry) → flat_map (λ entry. unless (is_among others entry) (f entry)) ones ≡ []
    → (text : Text) → Contains (map spelling ones) text → Contains (map spelling others) text
all-among f [] others none text here = absurd (let below = here.1 in omega (arith, below))
all-among f (entry ∷ ones) others none text (zero, below, is) =
    let parts = no-both (unless (is_among others entry) (f entry)) (flat_map (λ e. unless (is_among others e) (f e)) ones) none in
    subst (Contains (map spelling others)) is
    (Contains-from_any (λ x y same. (bytes_eq-Decides x y).0 same) (spelling entry) (map spelling others)
    (unless-none (is_among others entry) (f entry) parts.0))
all-among f (entry ∷ ones) others none text (suc k, below, is) =
    let parts = no-both (unless (is_among others entry) (f entry)) (flat_map (λ e. unless (is_among others e) (f e)) ones) none in
    all-among f ones others parts.1 text (k, omega (arith, below), is)

among-none : (f : Entry → Difference) (ones others : List Entry)
    → ((text : Text) → Contains (map spelling ones) text → Contains (map spelling others) text)
    → flat_map (λ entry. unless (is_among others entry) (f entry)) ones ≡ []
among-none f [] others each = refl
among-none f (entry ∷ ones) others each =
    both-none (unless (is_among others entry) (f entry)) (flat_map (λ e. unless (is_among others e) (f e)) ones)
    (none-unless (is_among others entry) (f entry)
    (list_any-from_Contains (decided bytes_eq bytes_eq-Decides) (spelling entry) (map spelling others)
    (each (spelling entry) (0, omega arith, refl))))
    (among-none f ones others (λ text here. let below = here.1 in each text (suc here.0, omega (arith, below), here.2)))

same_bool : (a b : Bool) → (IsTrue a → IsTrue b) → (IsTrue b → IsTrue a) → a ≡ b
same_bool true true to back = refl
same_bool true false to back = sym (to refl)
same_bool false true to back = back refl
same_bool false false to back = refl

module _ (held recorded : Tables) (calendar : NamedCalendar) (ours theirs : List Entry) (are_ours : AreEntries held calendar.name ours)
    (are_theirs : AreEntries recorded calendar.name theirs) where
  calendar-agrees : of_entries calendar.name ours theirs ≡ []
      → (text : Text) → held.imported calendar.name text ≡ recorded.imported calendar.name text
  calendar-agrees none text =
      let parts = no-both (flat_map (λ entry. unless (is_among theirs entry) (NotRecorded calendar.name entry)) ours)
      (flat_map (λ entry. unless (is_among ours entry) (RecordedAlone calendar.name entry)) theirs) none in
      same_bool (held.imported calendar.name text) (recorded.imported calendar.name text)
      (λ here. (are_theirs.each text).0 (all-among (NotRecorded calendar.name) ours theirs parts.0 text ((are_ours.each text).1 here)))
      (λ there. (are_ours.each text).0 (all-among (RecordedAlone calendar.name) theirs ours parts.1 text ((are_theirs.each text).1 there)))

  calendar-none : ((text : Text) → held.imported calendar.name text ≡ recorded.imported calendar.name text)
      → of_entries calendar.name ours theirs ≡ []
  calendar-none agree =
      both-none (flat_map (λ entry. unless (is_among theirs entry) (NotRecorded calendar.name entry)) ours)
      (flat_map (λ entry. unless (is_among ours entry) (RecordedAlone calendar.name entry)) theirs)
      (among-none (NotRecorded calendar.name) ours theirs
      (λ text here. (are_theirs.each text).1 (sym (agree text) ∙ (are_ours.each text).0 here)))
      (among-none (RecordedAlone calendar.name) theirs ours
      (λ text here. (are_ours.each text).1 (agree text ∙ (are_theirs.each text).0 here)))

calendars-agree : (held recorded : Tables) (calendars : List NamedCalendar) (parts : List (List Difference))
    → AllZip (OfCalendar held recorded) calendars parts → flat_map (λ part. part) parts ≡ []
    → (calendar : NamedCalendar) → Contains calendars calendar
    → (text : Text) → held.imported calendar.name text ≡ recorded.imported calendar.name text
calendars-agree held recorded [] parts each none calendar here = absurd (let below = here.1 in omega (arith, below))
calendars-agree held recorded (first ∷ calendars) [] each none calendar here = absurd each
calendars-agree held recorded (first ∷ calendars) (part ∷ parts) each none calendar (zero, below, is) =
    let of = each.0 in
    let found = no-both part (flat_map (λ p. p) parts) none in
    subst (λ (c : NamedCalendar). (text : Text) → held.imported c.name text ≡ recorded.imported c.name text) is
    (calendar-agrees held recorded first of.ours of.theirs of.are_ours of.are_theirs (sym of.found_is ∙ found.0))
calendars-agree held recorded (first ∷ calendars) (part ∷ parts) each none calendar (suc k, below, is) =
    calendars-agree held recorded calendars parts each.1 (no-both part (flat_map (λ p. p) parts) none).1 calendar
    (k, omega (arith, below), is)

calendars-none : (held recorded : Tables) (calendars : List NamedCalendar) (parts : List (List Difference))
    → AllZip (OfCalendar held recorded) calendars parts
    → ((calendar : NamedCalendar) → Contains calendars calendar
    → (text : Text) → held.imported calendar.name text ≡ recorded.imported calendar.name text)
    → flat_map (λ part. part) parts ≡ []
calendars-none held recorded [] [] each agree = refl
calendars-none held recorded [] (part ∷ parts) each agree = absurd each
calendars-none held recorded (first ∷ calendars) [] each agree = absurd each
calendars-none held recorded (first ∷ calendars) (part ∷ parts) each agree =
    let of = each.0 in
    both-none part (flat_map (λ p. p) parts)
    (of.found_is ∙ calendar-none held recorded first of.ours of.theirs of.are_ours of.are_theirs (agree first (0, omega arith, refl)))
    (calendars-none held recorded calendars parts each.1
    (λ calendar here. let below = here.1 in agree calendar (suc here.0, omega (arith, below), here.2)))

-- ---- all tables

pub none-where-agree : NoDifferenceWhereTablesAgree
none-where-agree b held recorded found (of_calendars, (parts, each, joined), is) = (agrees, nothing)
  where
    of_panels : List Difference
    of_panels = flat_map (of_panel held recorded) b.panels

    of_points : List Difference
    of_points = flat_map (of_point held recorded) b.points

    of_schedules : List Difference
    of_schedules = flat_map (of_schedule held recorded) b.schedules

    of_tick : List Difference
    of_tick = of_last_tick held.last_tick recorded.last_tick

    agrees : found ≡ [] → Agree b held recorded
    agrees none =
        let first = no-both of_panels (of_points ++ (of_schedules ++ (of_calendars ++ of_tick))) (sym is ∙ none) in
        let second = no-both of_points (of_schedules ++ (of_calendars ++ of_tick)) first.1 in
        let third = no-both of_schedules (of_calendars ++ of_tick) second.1 in
        let fourth = no-both of_calendars of_tick third.1 in
        record {
          panels = λ panel here. panel-agrees held recorded panel (none-at (of_panel held recorded) b.panels first.0 panel here);
          points = λ point here. point-agrees held recorded point (none-at (of_point held recorded) b.points second.0 point here);
          schedules =
              λ schedule here. schedule-agrees held recorded schedule (none-at (of_schedule held recorded) b.schedules third.0 schedule here);
          calendars = calendars-agree held recorded b.calendars parts each (sym joined ∙ fourth.0);
          last_tick = (value-Decides held.last_tick recorded.last_tick).0
              (unless-none (same_value held.last_tick recorded.last_tick) (LastTick held.last_tick recorded.last_tick) fourth.1);
        }

    nothing : Agree b held recorded → found ≡ []
    nothing agree =
        is
        ∙ both-none of_panels (of_points ++ (of_schedules ++ (of_calendars ++ of_tick)))
        (all-none (of_panel held recorded) b.panels (λ panel here. panel-none held recorded panel (agree.panels panel here)))
        (both-none of_points (of_schedules ++ (of_calendars ++ of_tick))
        (all-none (of_point held recorded) b.points (λ point here. point-none held recorded point (agree.points point here)))
        (both-none of_schedules (of_calendars ++ of_tick)
        (all-none (of_schedule held recorded) b.schedules
        (λ schedule here. schedule-none held recorded schedule (agree.schedules schedule here)))
        (both-none of_calendars of_tick (joined ∙ calendars-none held recorded b.calendars parts each agree.calendars)
        (none-unless (same_value held.last_tick recorded.last_tick) (LastTick held.last_tick recorded.last_tick)
        ((value-Decides held.last_tick recorded.last_tick).1 agree.last_tick)))))

-- ---- the first place of a point

none-first : (found : List Difference) → slice_get found 0 ≡ None → found ≡ []
none-first [] none = refl
none-first (difference ∷ found) none = absurd (let no : Some difference ≡ None = none in cc)

pub no-place : NoPlaceWherePointsAgree
no-place b held recorded = (agree, none)
  where
    agree : first_place b held recorded ≡ None → (point : Point) → Contains b.points point → AgreeAtPoint held recorded point
    agree nothing point here =
        point-agrees held recorded point (none-at (of_point held recorded) b.points (none-first _ nothing) point here)

    none : ((point : Point) → Contains b.points point → AgreeAtPoint held recorded point) → first_place b held recorded ≡ None
    none agrees =
        ap (λ (found : List Difference). slice_get found 0)
        (all-none (of_point held recorded) b.points (λ point here. point-none held recorded point (agrees point here)))
