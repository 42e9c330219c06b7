-- The named times that stand next to a time.
use Rattle.std.specs.Prelude.{◌≡◌, ℕ, ◌<◌, ◌≤◌, true, List, Option, MatchOption}
use Rattle.sched.specs.ByTime.{is_named}

abbrev pub IsNamed : List ℕ → ℕ → Type 0
IsNamed times time = is_named times time ≡ true

-- the latest named time that is not after a time, if there is one
abbrev pub IsLastTimeBy : List ℕ → ℕ → Option ℕ → Type 0
IsLastTimeBy times time last = MatchOption last ((t : ℕ) → IsNamed times t → time < t)
    (λ a. IsNamed times a × (a ≤ time) × ((t : ℕ) → IsNamed times t → t ≤ time → t ≤ a))

-- the first named time after a time, if there is one
abbrev pub IsNextTimeAfter : List ℕ → ℕ → Option ℕ → Type 0
IsNextTimeAfter times time next = MatchOption next ((t : ℕ) → IsNamed times t → t ≤ time)
    (λ b. IsNamed times b × (time < b) × ((t : ℕ) → IsNamed times t → time < t → b ≤ t))
