-- The tables after what a panel asks, said of the tables before it and of the plan.
use Rattle.std.specs.Prelude.{◌-◌, List, [], ◌∷◌, ◌++◌, Option, Some, None}
use Rattle.points.specs.declared.answer.Answer.{Answer}
use Rattle.points.specs.declared.command_row.CommandState.TheVariants.{Parked, Answered}
use Rattle.points.specs.PriorityArray.{Places}
use Rattle.store.specs.declared.change.KeptRow.{KeptRow}
use Rattle.store.specs.Change.{with_each, with_next, with_row, without_rows}
use Rattle.store.specs.Tables.{Tables}
use Rattle.points.specs.Texts.{Text}
use Rattle.window.specs.declared.numbered_content.NumberedContent.{NumberedContent}
use Rattle.window.specs.declared.plan.Plan.{Plan}
use Rattle.window.specs.Window.{remembered}
use Rattle.building.specs.Building.{Building}
use Rattle.deliveries.specs.Machine.{answer_to, places_after}

-- the places after commands of a panel
abbrev pub places_after_each : Building → (Text → Places) → Text → List NumberedContent → Text → Places
places_after_each building places panel [] = places
places_after_each building places panel (entry ∷ entries) =
    places_after_each building (places_after building places panel entry.content) panel entries

-- their rows, each with its answer
abbrev pub answered_rows : Building → (Text → Places) → Text → List NumberedContent → List KeptRow
answered_rows building places panel [] = []
answered_rows building places panel (entry ∷ entries) =
    record {
      panel = panel;
      number = entry.number;
      row = record { content = entry.content; state = Answered (answer_to building places panel entry.content) };
    } ∷ answered_rows building (places_after building places panel entry.content) panel entries

abbrev pub parked_rows : Text → Option NumberedContent → List KeptRow
parked_rows panel None = []
parked_rows panel (Some entry) =
    record { panel = panel; number = entry.number; row = record { content = entry.content; state = Parked } } ∷ []

-- the rows that a plan puts
abbrev pub rows_of : Building → (Text → Places) → Text → Plan → List KeptRow
rows_of building places panel plan = answered_rows building places panel plan.apply ++ parked_rows panel plan.park

-- the tables after a plan: its commands are acted on, its rows put, and what falls out of memory goes
unfoldable pub moved : Building → Text → Plan → Tables → Tables
moved building panel plan tables = record {
  places = places_after_each building tables.places panel plan.apply;
  next = with_next (record { panel = panel; next = plan.next }) tables.next;
  row = without_rows (record { panel = panel; number = plan.next - remembered })
      (with_each with_row (rows_of building tables.places panel plan) tables.row);
  shown = tables.shown;
  imported = tables.imported;
  last_tick = tables.last_tick;
}

-- the answer of the first of a panel's commands
abbrev pub first_answer : Building → (Text → Places) → Text → List NumberedContent → Option Answer
first_answer building places panel [] = None
first_answer building places panel (entry ∷ entries) = Some (answer_to building places panel entry.content)
