-- What the code adds to the straight list after an answer.
use Rattle.std.specs.Prelude.{Bool, true, false, if◌then◌else◌, List, [], ◌∷◌}
use Rattle.deliveries.specs.declared.reply.Reply.{Reply}
use Rattle.deliveries.specs.declared.reply.Reply.TheVariants.{Imported, Ticked}
use Rattle.deliveries.specs.declared.delivery.Delivery.{Delivery}
use Rattle.deliveries.specs.declared.delivery.Delivery.TheVariants.{Import}
use Rattle.sched.specs.declared.calendar.CalendarEntry.{CalendarEntry}

-- a tick that was acted on
abbrev pub is_ticked : Reply → Bool
is_ticked (Ticked writes) = true
is_ticked other = false

-- a row, where it is to be kept
abbrev pub row_if : Bool → CalendarEntry → List CalendarEntry
row_if adds row = if adds then row ∷ [] else []

-- an import that was carried out
abbrev pub is_imported : Reply → Bool
is_imported (Imported added known writes) = true
is_imported other = false

-- an import of these rows, if there are any
abbrev pub import_if : Bool → List CalendarEntry → List Delivery
import_if imported [] = []
import_if imported (row ∷ rows) = if imported then Import (row ∷ rows) ∷ [] else []
