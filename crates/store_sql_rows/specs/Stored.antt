-- What a database of the six tables holds.
use Rattle.std.specs.Prelude.{◌≡◌, ◌&&◌, Bool, true, false, not, List, [], ◌∷◌, ◌++◌, Option, None, is_some, unwrap_or, ℤ}
use Rattle.std.specs.FinMap.{empty}
use Rattle.std.specs.List.{list_all, list_any, filter, filter_map}
use Rattle.sqlite_value.specs.Order.{Row}
use Rattle.store.specs.Change.{with_each, with_next, with_row, with_place, with_shown, with_imported}
use Rattle.store.specs.Standing.{Content}
use Rattle.store.specs.Tables.{Tables}
use Rattle.store_sql_rows.specs.Rows.{next_said, command_said, place_said, shown_said, imported_said, last_said, same_panel, same_command, same_place, same_schedule, same_entry}

-- the rows of the six tables
pub record Kept : Type 0 where
  pub desk : List Row
  pub panel : List Row
  pub command : List Row
  pub place : List Row
  pub shown : List Row
  pub imported : List Row

-- what the one row of `desk` says of the last tick
abbrev pub last_in : List Row → Option ℤ
last_in [] = None
last_in (row ∷ rows) = unwrap_or (last_said row) None

-- the tables that the rows tell, one row after the other
abbrev pub tables_in : Kept → Tables
tables_in kept = record {
  places = with_each with_place (filter_map place_said kept.place) (λ point. empty);
  next = with_each with_next (filter_map next_said kept.panel) (λ panel. 1);
  row = with_each with_row (filter_map command_said kept.command) (λ panel number. None);
  shown = with_each with_shown (filter_map shown_said kept.shown) (λ schedule. None);
  imported = with_each with_imported (filter_map imported_said kept.imported) (λ calendar text. false);
  last_tick = last_in kept.desk;
}

-- no two items have one key
abbrev pub are_apart : {Item : Type 0} → (Item → Item → Bool) → List Item → Bool
are_apart same [] = true
are_apart same (x ∷ xs) = not (list_any (same x) xs) && are_apart same xs

-- each row can stand, and no two have one key
abbrev pub can_stand : {Item : Type 0} → (Row → Option Item) → (Item → Item → Bool) → List Row → Bool
can_stand said same rows = list_all (λ row. is_some (said row)) rows && are_apart same (filter_map said rows)

-- there is one row, and it can stand
abbrev pub is_desk : List Row → Bool
is_desk [] = false
is_desk (row ∷ []) = is_some (last_said row)
is_desk (row ∷ other ∷ rows) = false

abbrev pub is_sound_in : Kept → Bool
is_sound_in kept =
    is_desk kept.desk && (can_stand next_said same_panel kept.panel
    && (can_stand command_said same_command kept.command && (can_stand place_said same_place kept.place
    && (can_stand shown_said same_schedule kept.shown && can_stand imported_said same_entry kept.imported))))

abbrev pub content_in : Kept → Content
content_in kept = record { tables = tables_in kept; is_sound = is_sound_in kept }

-- the rows without those of a key, with a new row somewhere
pub record HasPut (row : Row) (gone : Row → Bool) (old now : List Row) : Type 0 where
  pub before : List Row
  pub after : List Row
  pub left : filter (λ r. not (gone r)) old ≡ before ++ after
  pub is : now ≡ before ++ row ∷ after

-- only rows of a key are gone
abbrev pub HasLost : (Row → Bool) → List Row → List Row → Type 0
HasLost gone old now = now ≡ filter (λ r. not (gone r)) old
