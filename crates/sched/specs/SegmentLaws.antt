-- The laws that tie the segments of a day to its value at each time.
use Rattle.std.specs.Prelude.{◌≡◌, ℕ, ◌<◌, ◌≤◌, ◌&&◌, nat_lt, nat_le, false, filter, Option, Some, ℤ}
use Rattle.std.specs.List.{list_any}
use Rattle.sched.specs.Segments.{segments_of, last_value}
use Rattle.sched.specs.declared.time.TheConstants.{HUNDREDTHS_A_DAY}

-- the value at a time is that of the last segment that is not later
abbrev pub LastSegmentHasTheValue : Type 0
LastSegmentHasTheValue = (value : ℕ → Option ℤ) (c : ℕ) → c < HUNDREDTHS_A_DAY
    → last_value (filter (λ segment. nat_le segment.time c) (segments_of value)) ≡ Some (value c)

-- where no segment begins after a time and up to a later one, the two have one value
abbrev pub ValueStandsBetweenSegments : Type 0
ValueStandsBetweenSegments = (value : ℕ → Option ℤ) (a c : ℕ) → a ≤ c → c < HUNDREDTHS_A_DAY
    → list_any (λ segment. nat_lt a segment.time && nat_le segment.time c) (segments_of value) ≡ false → value c ≡ value a
