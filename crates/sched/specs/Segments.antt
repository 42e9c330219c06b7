-- A day cut into segments: each begins where the value changes, and carries the new value.
use Rattle.std.specs.Prelude.{ℕ, zero, suc, ◌-◌, ℤ, Bool, true, not, if◌then◌else◌, List, [], ◌∷◌, ◌++◌, length}
use Rattle.std.specs.Prelude.{Option, Some, option_map, slice_get}
use Rattle.std.specs.Option.{option_eq}
use Rattle.std.specs.Ordering.{int_eq}
use Rattle.sched.specs.declared.day_list.TimeValue.{TimeValue}
use Rattle.sched.specs.declared.time.TheConstants.{HUNDREDTHS_A_DAY}

abbrev pub value_eq : Option ℤ → Option ℤ → Bool
value_eq x y = option_eq int_eq x y

-- midnight, and each hundredth at which the value differs from that a hundredth earlier
abbrev pub begins_at : (ℕ → Option ℤ) → ℕ → Bool
begins_at value zero = true
begins_at value (suc c) = not (value_eq (value c) (value (suc c)))

abbrev pub segment_at : (ℕ → Option ℤ) → ℕ → List TimeValue
segment_at value c = if begins_at value c then record { time = c; value = value c } ∷ [] else []

-- the segments that begin below n, in rising order
abbrev pub segments_below : (ℕ → Option ℤ) → ℕ → List TimeValue
segments_below value zero = []
segments_below value (suc c) = segments_below value c ++ segment_at value c

-- the segments of a day's values
unfoldable pub segments_of : (ℕ → Option ℤ) → List TimeValue
segments_of value = segments_below value HUNDREDTHS_A_DAY

-- the value of the last segment
abbrev pub last_value : List TimeValue → Option (Option ℤ)
last_value segments = option_map (λ segment. segment.value) (slice_get segments (length segments - 1))

-- segments with a next one, if its value is another
abbrev pub with_change : List TimeValue → TimeValue → List TimeValue
with_change segments next =
    if not (option_eq value_eq (last_value segments) (Some next.value)) then segments ++ next ∷ [] else segments
