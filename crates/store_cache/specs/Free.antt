-- Numbers under which a panel has no row.
use Rattle.std.specs.Prelude.{◌≡◌, ℕ, ◌≤◌, Bool, None}
use Rattle.points.specs.Run.{Rows}
use Rattle.points.specs.Texts.{Text}
use Rattle.store.specs.Asked.{Asked, IsBrokenRow}
use Rattle.store_cache.specs.declared.free_numbers.FreeNumbers.{FreeNumbers}

-- under no number from the first to the last is there a row, nor one that cannot stand
abbrev pub AreFree : Rows → (ℕ → Type 0) → ℕ → ℕ → Type 0
AreFree rows IsBroken first last = (n : ℕ) → first ≤ n → n ≤ last → (rows n ≡ None) × (IsBroken n → ⊥)

-- the same of a panel's numbers in a table
abbrev pub AreFreeIn : (Text → Rows) → (Asked → Bool) → Text → FreeNumbers → Type 0
AreFreeIn rows cannot_stand panel free = AreFree (rows panel) (IsBrokenRow cannot_stand panel) free.first free.last
