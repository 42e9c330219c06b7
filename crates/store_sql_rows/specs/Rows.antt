-- What a row of each table says. A row is its rowid and then its columns; a row that cannot stand says nothing.
use Rattle.std.specs.Prelude.{ℕ, ◌&&◌, ◌==◌, if◌then◌else◌, Bool, List, Option, Some, None, option_map, option_and_then, ℤ, pos, bytes_eq, ◌+◌}
use Rattle.sqlite_value.specs.declared.value.Value.{Value}
use Rattle.sqlite_value.specs.declared.value.Value.TheVariants.{Null, Int}
use Rattle.sqlite_value.specs.Order.{Row, column}
use Rattle.dates.specs.Entry.{spelling}
use Rattle.points.specs.declared.numbered_row.TheConstants.{LAST_NUMBER}
use Rattle.points.specs.declared.answer.Answer.TheVariants.{Done, Refused}
use Rattle.points.specs.declared.command_row.CommandRow.{CommandRow}
use Rattle.points.specs.declared.command_row.CommandState.{CommandState}
use Rattle.points.specs.declared.command_row.CommandState.TheVariants.{Parked, Answered}
use Rattle.points.specs.declared.content.Content.{Content}
use Rattle.points.specs.declared.rule.Rule.{Rule}
use Rattle.points.specs.declared.rule.Rule.TheVariants.{NoSuchPoint, NotGranted, NoSuchPriority, ReservedPriority, PriorityNotGranted, OutsideKind}
use Rattle.store.specs.declared.change.ImportedEntry.{ImportedEntry}
use Rattle.store.specs.declared.change.KeptRow.{KeptRow}
use Rattle.store.specs.declared.change.NextNumber.{NextNumber}
use Rattle.store.specs.declared.change.PlaceValue.{PlaceValue}
use Rattle.store.specs.declared.change.ShownValue.{ShownValue}
use Rattle.store_sql_rows.specs.Cells.{is_text, is_count, is_below, name_in, count_in, number_in, optional_in, entry_in}

-- ---- panel: name, next

abbrev pub next_said : Row → Option NextNumber
next_said row =
    option_and_then (λ name. option_map (λ next. record { panel = name; next = next })
    (count_in 1 (LAST_NUMBER + 1) (column row 2))) (name_in (column row 1))

-- ---- command: panel, number, point, priority, value, state, a, b

-- X1 to X6 as 1 to 6
abbrev pub rule_numbered : ℕ → Option Rule
rule_numbered n =
    if n == 1 then Some NoSuchPoint else if n == 2 then Some NotGranted else if n == 3 then Some NoSuchPriority
    else if n == 4 then Some ReservedPriority else if n == 5 then Some PriorityNotGranted else if n == 6 then Some OutsideKind else None

-- parked is 0, with neither a nor b
abbrev pub parked_in : Value → Value → Option CommandState
parked_in Null Null = Some Parked
parked_in _ _ = None

-- done is 1: a the present value, b its priority
abbrev pub done_in : Value → Value → Option CommandState
done_in a b = option_and_then (λ present. option_map (λ priority. Answered (Done present priority)) (count_in 0 16 b)) (number_in a)

-- refused is 2: a the rule, no b
abbrev pub refused_in : Value → Value → Option CommandState
refused_in (Int (pos n)) Null = option_map (λ rule. Answered (Refused rule)) (rule_numbered n)
refused_in _ _ = None

abbrev pub state_in : Value → Value → Value → Option CommandState
state_in state a b =
    if is_count 0 state then parked_in a b else if is_count 1 state then done_in a b else if is_count 2 state then refused_in a b else None

abbrev pub content_in : Value → Value → Value → Option Content
content_in point priority value =
    option_and_then (λ name. option_and_then (λ at. option_map (λ asked. record { point = name; priority = at; value = asked })
    (optional_in value)) (number_in priority)) (name_in point)

-- the six cells of a command's content and state
abbrev pub command_in : Value → Value → Value → Value → Value → Value → Option CommandRow
command_in point priority value state a b =
    option_and_then (λ content. option_map (λ stands. record { content = content; state = stands }) (state_in state a b))
    (content_in point priority value)

abbrev pub command_said : Row → Option KeptRow
command_said row =
    option_and_then (λ name. option_and_then (λ number. option_map (λ kept. record { panel = name; number = number; row = kept })
    (command_in (column row 3) (column row 4) (column row 5) (column row 6) (column row 7) (column row 8)))
    (count_in 1 LAST_NUMBER (column row 2))) (name_in (column row 1))

-- ---- place: point, priority, value

abbrev pub place_said : Row → Option PlaceValue
place_said row =
    option_and_then (λ name. option_and_then (λ priority. option_map
    (λ value. record { point = name; priority = priority; value = Some value })
    (number_in (column row 3))) (count_in 1 16 (column row 2))) (name_in (column row 1))

-- ---- shown: schedule, value

abbrev pub shown_said : Row → Option ShownValue
shown_said row =
    option_and_then (λ name. option_map (λ value. record { schedule = name; shown = Some value }) (optional_in (column row 2)))
    (name_in (column row 1))

-- ---- imported: calendar, entry

abbrev pub imported_said : Row → Option ImportedEntry
imported_said row =
    option_and_then (λ name. option_map (λ entry. record { calendar = name; entry = entry }) (entry_in (column row 2)))
    (name_in (column row 1))

-- ---- desk: id, version, last

abbrev pub last_said : Row → Option (Option ℤ)
last_said row = optional_in (column row 3)

-- ---- the rows of a key

abbrev pub of_panel : List ℕ → Row → Bool
of_panel panel row = is_text panel (column row 1)

abbrev pub of_command : List ℕ → ℕ → Row → Bool
of_command panel number row = is_text panel (column row 1) && is_count number (column row 2)

abbrev pub of_lower_command : List ℕ → ℕ → Row → Bool
of_lower_command panel number row = is_text panel (column row 1) && is_below number (column row 2)

abbrev pub of_place : List ℕ → ℕ → Row → Bool
of_place point priority row = is_text point (column row 1) && is_count priority (column row 2)

abbrev pub of_schedule : List ℕ → Row → Bool
of_schedule schedule row = is_text schedule (column row 1)

abbrev pub of_entry : List ℕ → List ℕ → Row → Bool
of_entry calendar text row = is_text calendar (column row 1) && is_text text (column row 2)

-- ---- whether two items have one key

abbrev pub same_panel : NextNumber → NextNumber → Bool
same_panel a b = bytes_eq a.panel b.panel

abbrev pub same_command : KeptRow → KeptRow → Bool
same_command a b = bytes_eq a.panel b.panel && a.number == b.number

abbrev pub same_place : PlaceValue → PlaceValue → Bool
same_place a b = bytes_eq a.point b.point && a.priority == b.priority

abbrev pub same_schedule : ShownValue → ShownValue → Bool
same_schedule a b = bytes_eq a.schedule b.schedule

abbrev pub same_entry : ImportedEntry → ImportedEntry → Bool
same_entry a b = bytes_eq a.calendar b.calendar && bytes_eq (spelling a.entry) (spelling b.entry)
