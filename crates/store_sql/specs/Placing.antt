-- Rows with the cells of a priority and a value, put into a priority array one after the other.
use Rattle.std.specs.Prelude.{◌≡◌, ◌≤◌, ℕ, ℤ, List, [], ◌∷◌, Bool, true, not, ◌||◌, is_some, Option, None, Some}
use Rattle.std.specs.List.{filter}
use Rattle.std.specs.FinMap.{get}
use Rattle.points.specs.PriorityArray.{Places, put}
use Rattle.sqlite_rules.specs.Lists.{Has}
use Rattle.sqlite_value.specs.Order.{Row, column}
use Rattle.store_sql_rows.specs.Cells.{count_in, is_count, number_in}

-- the row tells a priority that has no value, and that priority now has the value it tells
pub record IsPlaced (row : Row) (old new : Places) : Type 0 where
  pub priority : ℕ
  pub value : ℤ
  pub at : count_in 1 16 (column row 0) ≡ Some priority
  pub least : 1 ≤ priority
  pub greatest : priority ≤ 16
  pub tells : number_in (column row 1) ≡ Some value
  pub was : get old priority ≡ None
  pub is : new ≡ put old priority (Some value)

-- whether that priority has a value
abbrev pub is_taken_in : Places → Option ℕ → Bool
is_taken_in places None = true
is_taken_in places (Some priority) = is_some (get places priority)

-- the row tells no priority or no value, or its priority has a value
abbrev pub cannot_place : Row → Places → Bool
cannot_place row places = is_taken_in places (count_in 1 16 (column row 0)) || not (is_some (number_in (column row 1)))

-- the rows of a priority
abbrev pub rows_at : ℕ → List Row → List Row
rows_at priority rows = filter (λ row. is_count priority (column row 0)) rows

-- the array has the one value that the rows tell of a priority, and no other
pub record AreReported (rows : List Row) (array : Places) : Type 0 where
  pub none : (q : ℕ) → get array q ≡ None → rows_at q rows ≡ []
  pub some : (q : ℕ) (x : ℤ) → get array q ≡ Some x → (row : Row) × (rows_at q rows ≡ row ∷ []) × (number_in (column row 1) ≡ Some x)
  pub within : (q : ℕ) (x : ℤ) → get array q ≡ Some x → (1 ≤ q) × (q ≤ 16)
  pub each : (row : Row) → Has rows row
      → ((priority : ℕ) × (count_in 1 16 (column row 0) ≡ Some priority)) × ((x : ℤ) × (number_in (column row 1) ≡ Some x))
