-- Which rows of the six tables cannot stand, by what a read asks for.
use Rattle.std.specs.Prelude.{◌≡◌, Bool, false, not, ◌||◌, List, Option, is_some, filter}
use Rattle.std.specs.List.{list_all, list_any}
use Rattle.sqlite_value.specs.Order.{Row, column}
use Rattle.store.specs.Asked.{Asked}
use Rattle.store.specs.Asked.Asked.{AnyName, ArrayOf, EntriesOf, LastTick, NextOf, RowOf, ShownBy}
use Rattle.store_sql_rows.specs.Cells.{is_below, is_text, name_in}
use Rattle.store_sql_rows.specs.Rows.{command_said, imported_said, next_said, of_command, of_panel, of_schedule, place_said, shown_said}
use Rattle.store_sql_rows.specs.Rows.{same_command, same_panel, same_place, same_schedule}
use Rattle.store_sql_rows.specs.Stored.{Kept, can_stand, is_desk}

-- of the rows that are picked one says nothing, or two have one key
abbrev pub are_broken : {Item : Type 0} → (Row → Option Item) → (Item → Item → Bool) → (Row → Bool) → List Row → Bool
are_broken said same pick rows = not (can_stand said same (filter pick rows))

-- of the rows that are picked one says nothing
abbrev pub are_unsaid : {Item : Type 0} → (Row → Option Item) → (Row → Bool) → List Row → Bool
are_unsaid said pick rows = not (list_all (λ row. is_some (said row)) (filter pick rows))

-- the row's name is none
abbrev pub is_nameless : Row → Bool
is_nameless row = not (is_some (name_in (column row 1)))

-- the number of the row is below 1
abbrev pub is_unnumbered : Row → Bool
is_unnumbered row = is_below 1 (column row 2)

-- a row without a name, or a command's with a number below 1
abbrev pub has_nameless : Kept → Bool
has_nameless kept =
    list_any is_nameless kept.panel || (list_any is_nameless kept.command || (list_any is_nameless kept.place
    || (list_any is_nameless kept.shown || (list_any is_nameless kept.imported || list_any is_unnumbered kept.command))))

-- whether a row that is asked for is kept that cannot stand
abbrev pub cannot_stand_in : Kept → Asked → Bool
cannot_stand_in kept (NextOf panel) = are_broken next_said same_panel (of_panel panel) kept.panel
cannot_stand_in kept (RowOf panel number) = are_broken command_said same_command (of_command panel number) kept.command
cannot_stand_in kept (ArrayOf point) = are_broken place_said same_place (λ row. is_text point (column row 1)) kept.place
cannot_stand_in kept (ShownBy schedule) = are_broken shown_said same_schedule (of_schedule schedule) kept.shown
cannot_stand_in kept (EntriesOf calendar) = are_unsaid imported_said (λ row. is_text calendar (column row 1)) kept.imported
cannot_stand_in kept LastTick = not (is_desk kept.desk)
cannot_stand_in kept AnyName = has_nameless kept

-- what could stand can stand still
abbrev pub Keeps : Kept → Kept → Type 0
Keeps old new = (asked : Asked) → cannot_stand_in old asked ≡ false → cannot_stand_in new asked ≡ false
