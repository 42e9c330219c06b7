-- A building and its list of deliveries fix what each of the six tables holds.
use Rattle.std.specs.Prelude.{ℕ, nat_lt, if◌then◌else◌, List, Option, option_map}
use Rattle.std.specs.List.{list_any}
use Rattle.std.specs.Str.{bytes_eq}
use Rattle.points.specs.declared.answer.Answer.{Answer}
use Rattle.points.specs.declared.command_row.CommandRow.{CommandRow}
use Rattle.points.specs.declared.command_row.CommandState.TheVariants.{Parked, Answered}
use Rattle.points.specs.declared.content.Content.{Content}
use Rattle.store.specs.Tables.{Tables}
use Rattle.window.specs.Taken.{Taken, front}
use Rattle.window.specs.View.{kept_at}
use Rattle.building.specs.Building.{Building}
use Rattle.deliveries.specs.declared.delivery.Delivery.{Delivery}
use Rattle.deliveries.specs.Accepted.{taken_by}
use Rattle.deliveries.specs.Events.{machine}

-- the row of an accepted content: a command past the front is parked, another one has its answer
abbrev pub row_of : ℕ → ℕ → Answer → Content → CommandRow
row_of front number answer content =
    record { content = content; state = if nat_lt front number then Parked else Answered answer }

-- the row under a number: of what was accepted there, as long as it is kept
abbrev pub row_at : Taken → ℕ → Answer → Option CommandRow
row_at taken number answer = option_map (row_of (front taken) number answer) (kept_at taken number)

-- the tables of a list of deliveries
unfoldable pub tables : Building → List Delivery → Tables
tables building deliveries = record {
  places = (machine building deliveries).places;
  next = λ panel. front (taken_by building panel deliveries);
  row = λ panel number. row_at (taken_by building panel deliveries) number ((machine building deliveries).answers panel number);
  shown = (machine building deliveries).shown;
  imported = λ calendar text. list_any (bytes_eq text) ((machine building deliveries).imported calendar);
  last_tick = (machine building deliveries).last_tick;
}
