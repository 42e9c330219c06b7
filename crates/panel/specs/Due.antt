-- What is to be sent now, or again.
use Rattle.std.specs.Prelude.{ℕ, pos, Bool, nat_lt, min, List, [], ◌∷◌, map, Option, Some, None}
use Rattle.std.specs.List.{filter}
use Rattle.points.specs.Texts.{Text}
use Rattle.window.specs.declared.numbered_content.NumberedContent.{NumberedContent}
use Rattle.deliveries.specs.declared.delivery.Delivery.{Delivery}
use Rattle.deliveries.specs.declared.delivery.Delivery.TheVariants.{Command, Skip}
use Rattle.panel.specs.Run.{Run, in_flight, kept_below, reach, skip}

abbrev pub command_of : Text → NumberedContent → Delivery
command_of panel entry = Command panel (pos entry.number) entry.content

-- the journal has it
abbrev pub is_kept : ℕ → NumberedContent → Bool
is_kept kept_below entry = nat_lt entry.number kept_below

-- the skip alone, where there is one; else each command that the journal has
abbrev pub named_by : Text → ℕ → Option ℕ → ℕ → List NumberedContent → List Delivery
named_by panel kept_below None reach entries = map (command_of panel) (filter (is_kept kept_below) entries)
named_by panel kept_below (Some upto) reach entries = Skip panel (pos (min upto reach)) ∷ []

-- a skip, as long as the desk has not said that it is done; then each command that waits for its last reply
abbrev pub due : Text → Run → List Delivery
due panel run = named_by panel (kept_below run) (skip run) (reach run) (in_flight run)
