-- What a step of a transaction does.
use Rattle.std.specs.Prelude.{◌≡◌, Option, Result, Err, IfErr, IfOk, true, ℤ}
use Rattle.std.specs.Borrow.{MutBor}
use Rattle.sqlite.specs.declared.error.Error.{Error}
use Rattle.sqlite.specs.declared.error.Error.TheVariants.{SqliteFailure}
use Rattle.sqlite.specs.declared.error.ErrorCode.TheVariants.{ConstraintViolation}
use Rattle.sqlite.specs.Held.{Held, state}
use Rattle.sqlite.specs.State.{HasCleanDisk, KeepsCommit, Shows, State, Survives}
use Rattle.sqlite_trees.specs.declared.store.Store.{Ghosts}
use Rattle.sqlite_schema.specs.declared.schema.Constraint.TheVariants.{Unique}
use Rattle.store.specs.declared.change.Change.{Change}
use Rattle.store.specs.declared.change.ImportedEntry.{ImportedEntry}
use Rattle.store.specs.declared.change.KeptRow.{KeptRow}
use Rattle.store.specs.declared.change.NextNumber.{NextNumber}
use Rattle.store.specs.declared.change.PlaceValue.{PlaceValue}
use Rattle.store.specs.declared.change.RowsBelow.{RowsBelow}
use Rattle.store.specs.declared.change.ShownValue.{ShownValue}
use Rattle.store.specs.Change.{with_each, with_imported, with_last_tick, with_next, with_place, with_row, with_shown, without_rows}
use Rattle.store.specs.Tables.{Tables}
use Rattle.store_sql_rows.specs.Failing.{FailsFor}
use Rattle.store_sql_rows.specs.Ours.{IsInside, Makes, kept_in}

-- the transaction goes on, and the tables are another function of themselves
pub record Turns (f : Tables → Tables) (old new : State) : Type 0 where
  pub inside : IsInside new
  pub makes : Makes f (kept_in old.now.trees) (kept_in new.now.trees)

-- A step of a transaction: what it does where it succeeds, by its answer; and whatever it answered, it commits nothing.
pub record StepsBy {A : Type 0} (Does : A → State → State → Type 0) (old new : State) (outcome : Result A Error) : Type 0 where
  pub done : HasCleanDisk new → IsInside old → IfOk outcome (λ it. Does it old new)
  pub kept : HasCleanDisk new → KeepsCommit old new
  pub survives : Survives old new (λ trees. ⊥)

-- a step that does the same whatever its answer is
abbrev pub Steps : {A : Type 0} → (State → State → Type 0) → State → State → Result A Error → Type 0
Steps Does = StepsBy (λ _. Does)

-- A step of a transaction, which stays on its connection.
pub record MovesBy {S A : Type 0} (g : Ghosts S) (Does : A → State → State → Type 0) (old new : MutBor (Held S))
    (outcome : Result A Error) : Type 0 where
  pub same_reference : new.ghost_name ≡ old.ghost_name
  pub steps : StepsBy Does (state g old.now) (state g new.now) outcome

-- the same of a step that does the same whatever its answer is
abbrev pub Moves : {S A : Type 0} → Ghosts S → (State → State → Type 0) → MutBor (Held S) → MutBor (Held S) → Result A Error
    → Type 0
Moves g Does = MovesBy g (λ _. Does)

-- a step that fails in a transaction over the six tables has its cause
abbrev pub FailsInside : {S A : Type 0} → Ghosts S → MutBor (Held S) → MutBor (Held S) → Result A Error → Type 0
FailsInside g old new outcome =
    HasCleanDisk (state g new.now) → IsInside (state g old.now) → IfErr outcome (FailsFor (state g old.now) (state g new.now))

-- a statement that is refused as not unique leaves all as it was, and the transaction goes on
abbrev pub StaysIfTaken : {A : Type 0} → State → State → Result A Error → Type 0
StaysIfTaken old new outcome =
    HasCleanDisk new → IsInside old → outcome ≡ Err (SqliteFailure (ConstraintViolation Unique))
    → Shows old new old.now old.committed true

-- ---- the tables with one item more

abbrev pub next_put : NextNumber → Tables → Tables
next_put item tables = record tables { next = with_next item tables.next }

abbrev pub row_put : KeptRow → Tables → Tables
row_put item tables = record tables { row = with_row item tables.row }

abbrev pub rows_dropped : RowsBelow → Tables → Tables
rows_dropped item tables = record tables { row = without_rows item tables.row }

abbrev pub place_put : PlaceValue → Tables → Tables
place_put item tables = record tables { places = with_place item tables.places }

abbrev pub shown_put : ShownValue → Tables → Tables
shown_put item tables = record tables { shown = with_shown item tables.shown }

abbrev pub imported_put : ImportedEntry → Tables → Tables
imported_put item tables = record tables { imported = with_imported item tables.imported }

abbrev pub last_put : Option ℤ → Tables → Tables
last_put last tables = record tables { last_tick = with_last_tick last tables.last_tick }

-- ---- the parts of a change, each in the order of its lists

-- the next numbers and the rows of commands
abbrev pub with_commands : Change → Tables → Tables
with_commands change tables =
    with_each rows_dropped change.dropped.items (with_each row_put change.rows.items (with_each next_put change.nexts.items tables))

-- what the points, the schedules and the calendars have, and the last tick
abbrev pub with_values : Change → Tables → Tables
with_values change tables =
    last_put change.last_tick (with_each imported_put change.imported.items
    (with_each shown_put change.shown.items (with_each place_put change.places.items tables)))
