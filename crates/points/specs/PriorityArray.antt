-- A point's priority array of sixteen places, and how it or the relinquish default gives the present value.
use Rattle.std.specs.Prelude.{◌≡◌, ℕ, ◌<◌, List, [], ◌∷◌, Option, Some, None, ℤ}
use Rattle.std.specs.Ordering.{nat_cmp}
use Rattle.std.specs.FinMap.{FinMap, entries, get, insert, remove}

-- the values of a priority array by their priorities; a place without one is NULL
abbrev pub Places : Type 0
Places = FinMap nat_cmp ℤ

-- no value stands outside 1 to 16
pub record HasSixteenPlaces (places : Places) : Type 0 where
  pub above : get places 0 ≡ None
  pub below : (priority : ℕ) → 16 < priority → get places priority ≡ None

-- the places with a value, or NULL, at one priority
abbrev pub put : Places → ℕ → Option ℤ → Places
put places priority None = remove places priority
put places priority (Some value) = insert places priority value

-- the value at the least priority, with that priority; of none, the relinquish default, with 0
abbrev pub first_of : ℤ → List (ℕ × ℤ) → ℤ × ℕ
first_of default [] = (default, 0)
first_of default (place ∷ places) = (place.1, place.0)

-- the present value, and the priority that gives it
unfoldable pub present_of : Places → ℤ → ℤ × ℕ
present_of places default = first_of default (entries places)
