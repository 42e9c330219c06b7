-- A row that is made of an item says that item.
use Rattle.std.proofs.Common.{◌≡◌, ℕ, ◌≤◌, cond, nat_le, List, Option, Some, None, option_map, option_and_then, ℤ, pos, Ok, refl, sym, ap, ◌∙◌}
use Rattle.std.proofs.lemmas.Bool.{and_from, le-leb}
use Rattle.dates.specs.Entry.{IsEntry, reading, spelling}
use Rattle.dates.proofs.SpellingLaws.{reading-Spells}
use Rattle.points.specs.declared.command_row.CommandRow.{CommandRow}
use Rattle.points.specs.declared.content.Content.{Content}
use Rattle.points.specs.Name.{IsName}
use Rattle.sqlite_value.specs.declared.value.Value.{Value}
use Rattle.sqlite_value.specs.declared.value.Value.TheVariants.{Int, Text}
use Rattle.sqlite_value.specs.Order.{Row, column}
use Rattle.store.specs.declared.change.ImportedEntry.{ImportedEntry}
use Rattle.store.specs.declared.change.KeptRow.{KeptRow}
use Rattle.store.specs.declared.change.NextNumber.{NextNumber}
use Rattle.store.specs.declared.change.PlaceValue.{PlaceValue}
use Rattle.store.specs.declared.change.ShownValue.{ShownValue}
use Rattle.store.specs.Change.{IsNext, IsNumber, IsPlace}
use Rattle.store_sql_rows.specs.Cells.{cell_of, count_in, entry_in, entry_of, name_in, number_in, optional_in}
use Rattle.store_sql_rows.specs.Rows.{command_in, command_said, content_in, imported_said, next_said, place_said, shown_said, state_in}

name-made : (cell : Value) (name : List ℕ) → cell ≡ Text name → IsName name → name_in cell ≡ Some name
name-made cell name is named = ap name_in is ∙ ap (λ b. cond b (Some name) None) named

count-made : (least greatest : ℕ) (cell : Value) (count : ℕ) → cell ≡ Int (pos count) → least ≤ count → count ≤ greatest
    → count_in least greatest cell ≡ Some count
count-made least greatest cell count is low high =
    ap (count_in least greatest) is
    ∙ ap (λ b. cond b (Some count) None) (and_from (nat_le least count) (nat_le count greatest) (le-leb least count low)
    (le-leb count greatest high))

optional-made : (cell : Value) (value : Option ℤ) → cell ≡ cell_of value → optional_in cell ≡ Some value
optional-made cell None is = ap optional_in is
optional-made cell (Some n) is = ap optional_in is

pub made_next : (item : NextNumber) (row : Row) → column row 1 ≡ Text item.panel → column row 2 ≡ Int (pos item.next) → IsName item.panel
    → IsNext item
    → next_said row ≡ Some item
made_next item row first second named in' =
    let name = name-made (column row 1) item.panel first named in
    let next = count-made 1 1_000_000_000_001 (column row 2) item.next second in'.least in'.greatest in
    λ i. option_and_then (λ panel. option_map (λ count. record { panel = panel; next = count }) (next i)) (name i)

-- the cells of a content
pub made_content : (content : Content) (point priority value : Value) → point ≡ Text content.point → priority ≡ Int content.priority
    → value ≡ cell_of content.value → IsName content.point → content_in point priority value ≡ Some content
made_content content point priority value first second third named =
    let name = name-made point content.point first named in
    let at = ap number_in second in
    let asked = optional-made value content.value third in
    λ i. option_and_then (λ p. option_and_then (λ q. option_map (λ r. record { point = p; priority = q; value = r }) (asked i))
    (at i)) (name i)

-- the cells of a content and of a state
pub made_cells : (kept : CommandRow) (point priority value state a b : Value) → content_in point priority value ≡ Some kept.content
    → state_in state a b ≡ Some kept.state → command_in point priority value state a b ≡ Some kept
made_cells kept point priority value state a b asks stands =
    λ i. option_and_then (λ content. option_map (λ state. record { content = content; state = state }) (stands i)) (asks i)

pub made_command : (item : KeptRow) (row : Row) → column row 1 ≡ Text item.panel → column row 2 ≡ Int (pos item.number) → IsName item.panel
    → IsNumber item.number → command_in (column row 3) (column row 4) (column row 5) (column row 6) (column row 7) (column row 8)
    ≡ Some item.row
    → command_said row ≡ Some item
made_command item row first second named in' says =
    let name = name-made (column row 1) item.panel first named in
    let count = count-made 1 1_000_000_000_000 (column row 2) item.number second in'.least in'.greatest in
    λ i. option_and_then (λ panel. option_and_then
    (λ number. option_map (λ kept. record { panel = panel; number = number; row = kept }) (says i)) (count i)) (name i)

pub made_place : (item : PlaceValue) (value : ℤ) (row : Row) → item.value ≡ Some value → column row 1 ≡ Text item.point
    → column row 2 ≡ Int (pos item.priority) → column row 3 ≡ Int value → IsName item.point → IsPlace item → place_said row ≡ Some item
made_place item value row some first second third named in' =
    let name = name-made (column row 1) item.point first named in
    let count = count-made 1 16 (column row 2) item.priority second in'.at_least_1 in'.at_most_16 in
    let here = ap number_in third in
    let made : place_said row ≡ Some (record { point = item.point; priority = item.priority; value = Some value }) =
    λ i. option_and_then (λ point. option_and_then
    (λ at. option_map (λ n. record { point = point; priority = at; value = Some n }) (here i)) (count i)) (name i) in
    made ∙ (λ i. Some (record { point = item.point; priority = item.priority; value = sym some i }))

pub made_shown : (item : ShownValue) (value : Option ℤ) (row : Row) → item.shown ≡ Some value → column row 1 ≡ Text item.schedule
    → column row 2 ≡ cell_of value → IsName item.schedule → shown_said row ≡ Some item
made_shown item value row some first second named =
    let name = name-made (column row 1) item.schedule first named in
    let shows = optional-made (column row 2) value second in
    let made : shown_said row ≡ Some (record { schedule = item.schedule; shown = Some value }) =
    λ i. option_and_then (λ schedule. option_map (λ v. record { schedule = schedule; shown = Some v }) (shows i)) (name i) in
    made ∙ (λ i. Some (record { schedule = item.schedule; shown = sym some i }))

pub made_imported : (item : ImportedEntry) (row : Row) → column row 1 ≡ Text item.calendar → column row 2 ≡ Text (spelling item.entry)
    → IsName item.calendar → IsEntry item.entry → imported_said row ≡ Some item
made_imported item row first second named in' =
    let name = name-made (column row 1) item.calendar first named in
    let spelled : reading (spelling item.entry) ≡ Ok item.entry = (reading-Spells (spelling item.entry) item.entry).1 (refl, in') in
    let entry : entry_in (column row 2) ≡ Some item.entry = ap entry_in second ∙ ap entry_of spelled in
    λ i. option_and_then (λ calendar. option_map (λ e. record { calendar = calendar; entry = e }) (entry i)) (name i)
