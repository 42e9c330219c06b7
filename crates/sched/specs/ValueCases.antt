-- The value of a list and of a schedule, said by pairs and cases.
use Rattle.std.specs.Prelude.{◌≡◌, ◌≢◌, ◌⊎◌, ◌↔◌, ℕ, ◌<◌, Bool, true, nat_le, List, Option, Some, None, ℤ, slice_get}
use Rattle.jiff_core.specs.declared.civil.date.Date.{Date}
use Rattle.sched.specs.declared.calendar.Calendar.{Calendar}
use Rattle.sched.specs.declared.day_list.TimeValue.{TimeValue}
use Rattle.sched.specs.declared.exception.Exception.{Exception}
use Rattle.sched.specs.declared.schedule.Schedule.{Schedule}
use Rattle.sched.specs.DayList.{list_value}
use Rattle.sched.specs.Exceptions.{speaks}
use Rattle.sched.specs.Schedule.{schedule_value, weekday_list}

-- x stands at an index of a list and passes a test, and its pair goes before that of each other that passes
pub record GoesFirst {A : Type 0} (passes : A → Bool) (Before : A → ℕ → A → ℕ → Type 0) (xs : List A) (x : A) : Type 0 where
  pub index : ℕ
  pub stands : slice_get xs index ≡ Some x
  pub passes_it : passes x ≡ true
  pub before_others : (y : A) (k : ℕ) → slice_get xs k ≡ Some y → passes y ≡ true → k ≢ index → Before x index y k

-- no element passes a test
abbrev pub NonePasses : {A : Type 0} → (A → Bool) → List A → Type 0
NonePasses {A} passes xs = (x : A) (k : ℕ) → slice_get xs k ≡ Some x → passes x ≢ true

-- x has the greater pair of time and position
abbrev pub IsLater : TimeValue → ℕ → TimeValue → ℕ → Type 0
IsLater x i y k = (y.time < x.time) ⊎ ((x.time ≡ y.time) × (k < i))

-- x has the smaller pair of EventPriority and index
abbrev pub IsHigher : Exception → ℕ → Exception → ℕ → Type 0
IsHigher x i y k = (x.event_priority < y.event_priority) ⊎ ((x.event_priority ≡ y.event_priority) × (i < k))

-- of the elements at or before the time, that of the greatest pair has the value; or there is none, and it is NULL
abbrev pub IsListValue : List TimeValue → ℕ → Option ℤ → Type 0
IsListValue list time v =
    ((x : TimeValue) × GoesFirst (λ y. nat_le y.time time) IsLater list x × (x.value ≡ v))
    ⊎ (NonePasses (λ y. nat_le y.time time) list × (v ≡ None))

-- an exception in effect has the value, which is not NULL, and a smaller pair than each other such exception
abbrev pub ByException : Schedule → List Calendar → Date → ℕ → Option ℤ → Type 0
ByException schedule calendars day time v =
    (x : Exception) × GoesFirst (speaks calendars day time) IsHigher schedule.exceptions x × (list_value x.times time ≡ v)

-- no exception in effect has a value other than NULL, and the weekday's list has the value, which is not NULL
abbrev pub ByWeekday : Schedule → List Calendar → Date → ℕ → Option ℤ → Type 0
ByWeekday schedule calendars day time v =
    NonePasses (speaks calendars day time) schedule.exceptions × (list_value (weekday_list schedule day) time ≡ v) × (v ≢ None)

-- no list has a value other than NULL, and the default is the value
abbrev pub ByDefault : Schedule → List Calendar → Date → ℕ → Option ℤ → Type 0
ByDefault schedule calendars day time v =
    NonePasses (speaks calendars day time) schedule.exceptions × (list_value (weekday_list schedule day) time ≡ None)
    × (schedule.default ≡ v)

-- the law of a list's value
abbrev pub ListValueIsTheLatest : Type 0
ListValueIsTheLatest = (list : List TimeValue) (time : ℕ) (v : Option ℤ) → (list_value list time ≡ v) ↔ IsListValue list time v

-- the law of a schedule's value
abbrev pub ValueIsByThreeCases : Type 0
ValueIsByThreeCases = (schedule : Schedule) (calendars : List Calendar) (day : Date) (time : ℕ) (v : Option ℤ)
    → (schedule_value schedule calendars day time ≡ v)
    ↔ (ByException schedule calendars day time v ⊎ (ByWeekday schedule calendars day time v ⊎ ByDefault schedule calendars day time v))
