-- What is written and not yet committed.
use Rattle.std.specs.Prelude.{◌≡◌, if◌then◌else◌, List, [], ◌∷◌, ◌++◌}
use Rattle.std.specs.Str.{bytes_eq}
use Rattle.points.specs.declared.command_row.CommandState.TheVariants.{Answered}
use Rattle.points.specs.declared.answer.Answer.{Answer}
use Rattle.points.specs.declared.content.Content.{Content}
use Rattle.points.specs.PriorityArray.{Places, put}
use Rattle.store.specs.declared.change.KeptRow.{KeptRow}
use Rattle.store.specs.declared.change.PlaceValue.{PlaceValue}
use Rattle.store.specs.Change.{with_each, with_place}
use Rattle.points.specs.Texts.{Text}
use Rattle.building.specs.Building.{Building}
use Rattle.deliveries.specs.Machine.{answer_to, place_of, places_after}
use Rattle.desk_commands.specs.declared.acting.Acted.{Acted}
use Rattle.window.specs.declared.numbered_content.NumberedContent.{NumberedContent}

-- the places with values that are written
abbrev pub written : List PlaceValue → (Text → Places) → Text → Places
written values places = with_each with_place values places

-- the row of a command that was acted on
abbrev pub answered_row : Text → NumberedContent → Answer → KeptRow
answered_row panel entry answer =
    record { panel = panel; number = entry.number; row = record { content = entry.content; state = Answered answer } }

-- the places with what a content puts in its own
abbrev pub commanding : Content → (Text → Places) → Text → Places
commanding content places = with_place (record { point = content.point; priority = place_of content.priority; value = content.value }) places

-- one point's places with the values that are written there
abbrev pub places_at : Text → List PlaceValue → Places → Places
places_at point [] places = places
places_at point (item ∷ items) places =
    places_at point items (if bytes_eq item.point point then put places item.priority item.value else places)

-- one command is acted on: its row is added, and the places are those after it
pub record Acts (building : Building) (panel : Text) (held : Text → Places) (entry : NumberedContent) (old new : Acted) : Type 0 where
  pub rows : new.rows.items ≡ old.rows.items
      ++ answered_row panel entry (answer_to building (written old.places.items held) panel entry.content) ∷ []
  pub places : written new.places.items held ≡ places_after building (written old.places.items held) panel entry.content
