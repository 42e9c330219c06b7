-- A change that puts one row and drops those of its panel below a number that is not above it.
use Rattle.std.specs.Prelude.{◌≡◌, ◌≤◌, ℕ, [], ◌∷◌}
use Rattle.store.specs.declared.change.Change.{Change}
use Rattle.store.specs.declared.change.KeptRow.{KeptRow}

pub record IsExchange (change : Change) (item : KeptRow) (below : ℕ) : Type 0 where
  pub row : change.rows.items ≡ item ∷ []
  pub dropped : change.dropped.items ≡ record { panel = item.panel; number = below } ∷ []
  pub low : below ≤ item.number
