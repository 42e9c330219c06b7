-- The hint at each thing that a building says: its line, or nothing.
use Rattle.std.specs.Prelude.{ℕ, ◌+◌, ◌==◌, Bool, false, List, [], ◌∷◌, ◌++◌, codes, decimal, if◌then◌else◌}
use Rattle.std.specs.List.{flat_map, list_any}
use Rattle.dates.specs.Entry.{spelling}
use Rattle.dates.specs.declared.entry.Entry.{Entry}
use Rattle.dates.specs.declared.entry.Entry.TheVariants as entry
use Rattle.points.specs.NameIndex.{is_among}
use Rattle.points.specs.Texts.{Text}
use Rattle.points.specs.declared.Panel.{Panel}
use Rattle.sched.specs.declared.exception.Exception.{Exception}
use Rattle.sched.specs.declared.exception.Period.{Period}
use Rattle.sched.specs.declared.exception.Period.TheVariants as period
use Rattle.building.specs.declared.named_calendar.NamedCalendar.{NamedCalendar}
use Rattle.building.specs.declared.named_schedule.NamedSchedule.{NamedSchedule}
use Rattle.building_hints.specs.EntryDays.{holds_on_some_day}
use Rattle.building_hints.specs.NullLists.{is_null_all_day}

-- what is said of each item by its number, from a first number on
abbrev pub numbered : {A : Type 0} → (ℕ → A → Text) → ℕ → List A → Text
numbered hint number [] = []
numbered hint number (item ∷ items) = hint number item ++ numbered hint (number + 1) items

-- ---- a calendar

-- an entry holds on no day
abbrev pub entry_hint : Text → ℕ → Entry → Text
entry_hint name number entry = if holds_on_some_day entry then [] else (codes "calendar " ++ (name ++ (codes ": entry "
    ++ (decimal number ++ (codes " (" ++ (spelling entry ++ codes ") holds on no day\n"))))))

-- the exception is for the days of the calendar at an index
abbrev pub is_for : ℕ → Period → Bool
is_for index (period.Entry entry) = false
is_for index (period.Calendar id) = id.index == index

abbrev pub uses : ℕ → NamedSchedule → Bool
uses index schedule = list_any (λ (it : Exception). is_for index it.period) schedule.schedule.exceptions

-- no exception uses it
abbrev pub unused_hint : List NamedSchedule → ℕ → Text → Text
unused_hint schedules index name =
    if list_any (uses index) schedules then [] else (codes "calendar " ++ (name ++ codes ": no exception uses it\n"))

abbrev pub calendar_hints : List NamedSchedule → ℕ → NamedCalendar → Text
calendar_hints schedules index calendar =
    numbered (entry_hint calendar.name) 1 calendar.calendar.entries ++ unused_hint schedules index calendar.name

-- ---- a panel

abbrev pub no_point_hint : Text → List Text → Text
no_point_hint name [] = codes "panel " ++ (name ++ codes ": no point\n")
no_point_hint name (point ∷ points) = []

abbrev pub no_priority_hint : Text → List ℕ → Text
no_priority_hint name [] = codes "panel " ++ (name ++ codes ": no priority\n")
no_priority_hint name (priority ∷ priorities) = []

abbrev pub panel_hints : Panel → Text
panel_hints panel = no_point_hint panel.name panel.points ++ no_priority_hint panel.name panel.priorities

-- ---- a schedule

abbrev pub no_target_hint : Text → List Text → Text
no_target_hint name [] = codes "schedule " ++ (name ++ codes ": no target\n")
no_target_hint name (point ∷ points) = []

-- its effective period has no day
abbrev pub no_period_hint : NamedSchedule → Text
no_period_hint schedule = if holds_on_some_day (entry.Range schedule.schedule.effective_period) then []
    else (codes "schedule " ++ (schedule.name ++ codes ": its effective period holds on no day\n"))

-- an exception's entry holds on no day
abbrev pub period_hint : Text → ℕ → Period → Text
period_hint name number (period.Entry entry) = if holds_on_some_day entry then [] else (codes "schedule " ++ (name
    ++ (codes ": exception " ++ (decimal number ++ (codes " (" ++ (spelling entry ++ codes ") holds on no day\n"))))))
period_hint name number (period.Calendar id) = []

-- an exception has no value at any time
abbrev pub null_hint : Text → ℕ → Exception → Text
null_hint name number exception = if is_null_all_day exception.times then (codes "schedule " ++ (name
    ++ (codes ": exception " ++ (decimal number ++ codes " is NULL all day, so the weekly list speaks\n")))) else []

abbrev pub exception_hints : Text → ℕ → Exception → Text
exception_hints name number exception = period_hint name number exception.period ++ null_hint name number exception

abbrev pub schedule_hints : NamedSchedule → Text
schedule_hints schedule = no_target_hint schedule.name schedule.targets
    ++ (no_period_hint schedule ++ numbered (exception_hints schedule.name) 1 schedule.schedule.exceptions)

-- ---- two schedules

-- the later one writes a point of the earlier one too
abbrev pub shared_hint : NamedSchedule → NamedSchedule → Text → Text
shared_hint earlier later point = if is_among point later.targets then (codes "schedules " ++ (earlier.name
    ++ (codes " and " ++ (later.name ++ (codes ": both write " ++ (point ++ (codes " at " ++ (decimal earlier.priority ++ codes "\n"))))))))
    else []

-- the points that both write, at one priority
abbrev pub shared_hints : NamedSchedule → NamedSchedule → Text
shared_hints earlier later = if earlier.priority == later.priority then flat_map (shared_hint earlier later) earlier.targets else []

-- each pair in file order
abbrev pub pair_hints : List NamedSchedule → Text
pair_hints [] = []
pair_hints (earlier ∷ later) = flat_map (shared_hints earlier) later ++ pair_hints later
