-- What an answer tells of a table.
use Rattle.std.specs.Prelude.{◌↔◌, ℕ, Bool, IsTrue, List}
use Rattle.sqlite_value.specs.Order.{Row}
use Rattle.sqlite.specs.Effect.{Database}

-- whether it is so of the rows of the table
abbrev pub TellsOf : ℕ → (List Row → Type 0) → Bool → Database → Type 0
TellsOf tree Are answer db = IsTrue answer ↔ Are (db.trees tree)
