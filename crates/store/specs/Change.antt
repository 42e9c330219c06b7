-- What a committed change does to each table, and which rows, numbers and places can stand there.
use Rattle.std.specs.Prelude.{ℕ, ◌≤◌, Bool, ◌&&◌, ◌||◌, nat_lt, ◌==◌, if◌then◌else◌, List, [], ◌∷◌, Option, Some, None, ℤ, ◌+◌}
use Rattle.std.specs.List.{All}
use Rattle.std.specs.Str.{bytes_eq}
use Rattle.dates.specs.Entry.{spelling}
use Rattle.points.specs.declared.numbered_row.TheConstants.{LAST_NUMBER}
use Rattle.points.specs.declared.answer.Answer.TheVariants.{Done, Refused}
use Rattle.points.specs.declared.command_row.CommandState.{CommandState}
use Rattle.points.specs.declared.command_row.CommandState.TheVariants.{Parked, Answered}
use Rattle.points.specs.PriorityArray.{Places, put}
use Rattle.points.specs.Run.{Rows}
use Rattle.store.specs.declared.change.Change.{Change}
use Rattle.store.specs.declared.change.ImportedEntry.{ImportedEntry}
use Rattle.store.specs.declared.change.KeptRow.{KeptRow}
use Rattle.store.specs.declared.change.NextNumber.{NextNumber}
use Rattle.store.specs.declared.change.PlaceValue.{PlaceValue}
use Rattle.store.specs.declared.change.RowsBelow.{RowsBelow}
use Rattle.store.specs.declared.change.ShownValue.{ShownValue}
use Rattle.store.specs.Tables.{Tables}
use Rattle.points.specs.Texts.{Text}

-- what the items of a list make, one after the other
abbrev pub with_each : {Item Table : Type 0} → (Item → Table → Table) → List Item → Table → Table
with_each put_item [] table = table
with_each put_item (item ∷ items) table = with_each put_item items (put_item item table)

abbrev pub with_next : NextNumber → (Text → ℕ) → Text → ℕ
with_next item next panel = if bytes_eq item.panel panel then item.next else next panel

abbrev pub with_row : KeptRow → (Text → Rows) → Text → Rows
with_row item row panel number = if bytes_eq item.panel panel && item.number == number then Some item.row else row panel number

abbrev pub without_rows : RowsBelow → (Text → Rows) → Text → Rows
without_rows item row panel number = if bytes_eq item.panel panel && nat_lt number item.number then None else row panel number

abbrev pub with_place : PlaceValue → (Text → Places) → Text → Places
with_place item places point = if bytes_eq item.point point then put (places point) item.priority item.value else places point

abbrev pub with_shown : ShownValue → (Text → Option (Option ℤ)) → Text → Option (Option ℤ)
with_shown item shown schedule = if bytes_eq item.schedule schedule then item.shown else shown schedule

abbrev pub with_imported : ImportedEntry → (Text → Text → Bool) → Text → Text → Bool
with_imported item imported calendar text =
    (bytes_eq item.calendar calendar && bytes_eq (spelling item.entry) text) || imported calendar text

abbrev pub with_last_tick : Option ℤ → Option ℤ → Option ℤ
with_last_tick None last = last
with_last_tick (Some moment) last = Some moment

-- the tables with a whole change
unfoldable pub with_change : Change → Tables → Tables
with_change change tables = record {
  places = with_each with_place change.places.items tables.places;
  next = with_each with_next change.nexts.items tables.next;
  row = with_each without_rows change.dropped.items (with_each with_row change.rows.items tables.row);
  shown = with_each with_shown change.shown.items tables.shown;
  imported = with_each with_imported change.imported.items tables.imported;
  last_tick = with_last_tick change.last_tick tables.last_tick;
}

-- a row's answer has a priority from 0 to 16
abbrev pub IsState : CommandState → Type 0
IsState Parked = Unit {0}
IsState (Answered (Done present priority)) = priority ≤ 16
IsState (Answered (Refused rule)) = Unit {0}

-- a number of a command
pub record IsNumber (number : ℕ) : Type 0 where
  pub least : 1 ≤ number
  pub greatest : number ≤ LAST_NUMBER

pub record IsKeptRow (item : KeptRow) : Type 0 where
  pub number : IsNumber item.number
  pub state : IsState item.row.state

pub record IsNext (item : NextNumber) : Type 0 where
  pub least : 1 ≤ item.next
  pub greatest : item.next ≤ LAST_NUMBER + 1

pub record IsPlace (item : PlaceValue) : Type 0 where
  pub at_least_1 : 1 ≤ item.priority
  pub at_most_16 : item.priority ≤ 16

-- a change whose items can stand in the tables
pub record CanStand (change : Change) : Type 0 where
  pub nexts : All IsNext change.nexts.items
  pub rows : All IsKeptRow change.rows.items
  pub places : All IsPlace change.places.items
