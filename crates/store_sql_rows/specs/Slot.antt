-- A table that has a key of its own, and its place among the six.
use Rattle.std.specs.Prelude.{◌≡◌, ℕ, List, [], ◌∷◌}
use Rattle.sqlite_schema.specs.declared.schema.Table.{Table}
use Rattle.sqlite_value.specs.Order.{Row}
use Rattle.store_sql_rows.specs.Schema.{command_table, imported_table, panel_table, place_table, shown_table}
use Rattle.store_sql_rows.specs.Stored.{Kept}

pub record Slot : Type 0 where
  -- its place in the schema
  pub at : ℕ
  pub table : Table
  -- the places of its key
  pub key : List ℕ
  pub get : Kept → List Row
  pub set : List Row → Kept → Kept

abbrev pub panel_slot : Slot
panel_slot = record { at = 1; table = panel_table; key = 1 ∷ []; get = λ kept. kept.panel; set = λ rows kept. record kept { panel = rows } }

abbrev pub command_slot : Slot
command_slot =
    record {
      at = 2;
      table = command_table;
      key = 1 ∷ 2 ∷ [];
      get = λ kept. kept.command;
      set = λ rows kept. record kept { command = rows };
    }

abbrev pub place_slot : Slot
place_slot =
    record { at = 3; table = place_table; key = 1 ∷ 2 ∷ []; get = λ kept. kept.place; set = λ rows kept. record kept { place = rows } }

abbrev pub shown_slot : Slot
shown_slot = record { at = 4; table = shown_table; key = 1 ∷ []; get = λ kept. kept.shown; set = λ rows kept. record kept { shown = rows } }

abbrev pub imported_slot : Slot
imported_slot =
    record {
      at = 5;
      table = imported_table;
      key = 1 ∷ 2 ∷ [];
      get = λ kept. kept.imported;
      set = λ rows kept. record kept { imported = rows };
    }

-- the rows of the table were changed so, and those of the others are as they were
pub record On (slot : Slot) (Rows : List Row → List Row → Type 0) (old new : Kept) : Type 0 where
  pub others : new ≡ slot.set (slot.get new) old
  pub rows : Rows (slot.get old) (slot.get new)
