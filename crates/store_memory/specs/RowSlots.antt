-- Slots, each of a number of its own, in the order of the numbers.
use Rattle.std.specs.Prelude.{◌≡◌, ℕ, ◌<◌, ◌≤◌, ◌==◌, List, [], ◌∷◌, length, if◌then◌else◌, slice_index_or, Option, Some, None, Bool, is_some}
use Rattle.std.specs.List.{list_any}
use Rattle.points.specs.declared.command_row.CommandRow.{CommandRow}
use Rattle.store_memory.specs.declared.row_slots.RowSlot.{RowSlot}
use Rattle.store_memory.specs.Slots.{flatten}

-- what the slot of a number holds, if it has one
abbrev pub slot_for : List RowSlot → ℕ → Option (Option CommandRow)
slot_for [] number = None
slot_for (slot ∷ slots) number = if slot.number == number then Some slot.row else slot_for slots number

-- the row under a number
abbrev pub row_for : List RowSlot → ℕ → Option CommandRow
row_for slots number = flatten (slot_for slots number)

-- whether any number has a row
abbrev pub has_row : List RowSlot → Bool
has_row slots = list_any (λ slot. is_some (row_for slots slot.number)) slots

-- what stands for a slot past the last
abbrev pub no_slot : RowSlot
no_slot = record { number = 0; row = None }

-- the number of the slot at an index
abbrev pub number_at : List RowSlot → ℕ → ℕ
number_at slots i = let slot = slice_index_or slots i no_slot in slot.number

-- the numbers rise, so that none comes twice
abbrev pub AreRising : List RowSlot → Type 0
AreRising slots = (i j : ℕ) → i < j → j < length slots → number_at slots i < number_at slots j

-- the slot at an index is that of a number
pub record IsAt (slots : List RowSlot) (number i : ℕ) : Type 0 where
  pub within : i < length slots
  pub has_number : number_at slots i ≡ number

-- so many of the numbers that have a slot are below this one
pub record IsCountBelow (slots : List RowSlot) (number i : ℕ) : Type 0 where
  pub within : i ≤ length slots
  pub before : (j : ℕ) → j < i → number_at slots j < number
  pub there : i < length slots → number ≤ number_at slots i
  pub behind : (j : ℕ) → i < j → j < length slots → number < number_at slots j
