-- What the tables of rows tell after a change of the rows, and what the rows of a key tell of the tables.
use Rattle.std.proofs.Common.{◌≡◌, ℕ, ◌≤◌, true, false, ◌&&◌, ◌==◌, List, ◌∷◌, Option, Some, None, is_some, unwrap_or, filter, filter_map, []}
use Rattle.std.proofs.Common.{ℤ, Contains, refl, sym, ap, ◌∙◌, arith, IsTrue}
use Rattle.std.specs.FinMap.{get, empty, get-empty}
use Rattle.std.specs.Ordering.{nat_cmp}
use Rattle.std.specs.Str.{bytes_eq}
use Rattle.std.proofs.lemmas.Bool.{and_parts, and_from, ne_eqb, eqb-true, eq-eqb}
use Rattle.dates.specs.Entry.{spelling}
use Rattle.points.specs.PriorityArray.{HasSixteenPlaces}
use Rattle.sqlite_value.specs.Order.{Row, column}
use Rattle.store.specs.declared.change.ImportedEntry.{ImportedEntry}
use Rattle.store.specs.declared.change.KeptRow.{KeptRow}
use Rattle.store.specs.declared.change.NextNumber.{NextNumber}
use Rattle.store.specs.declared.change.PlaceValue.{PlaceValue}
use Rattle.store.specs.declared.change.RowsBelow.{RowsBelow}
use Rattle.store.specs.declared.change.ShownValue.{ShownValue}
use Rattle.store.specs.Change.{with_next, with_row, without_rows, with_place, with_shown, with_imported}
use Rattle.store.specs.Standing.{sound}
use Rattle.store.specs.Tables.{no_tables}
use Rattle.points.specs.Texts.{Text}
use Rattle.store_sql_rows.specs.Broken.{Keeps}
use Rattle.store_sql_rows.specs.Cells.{optional_in}
use Rattle.store_sql_rows.specs.Rows.{next_said, command_said, place_said, shown_said, imported_said, last_said}
use Rattle.store_sql_rows.specs.Rows.{of_panel, of_command, of_lower_command, of_place, of_schedule, of_entry}
use Rattle.store_sql_rows.specs.Rows.{same_panel, same_command, same_place, same_schedule, same_entry}
use Rattle.store_sql_rows.specs.Stored.{Kept, HasPut, HasLost, can_stand, content_in, is_desk, is_sound_in, last_in, tables_in}
pub use Rattle.store_sql_rows.proofs.ReadCellLemmas.{reading_spelled}
use Rattle.store_sql_rows.proofs.ReadCellLemmas.{same-text, text-same, panel-agrees, command-agrees, lower-agrees, place-agrees, place-parts, schedule-agrees, entry-agrees}
use Rattle.store_sql_rows.proofs.FoldLemmas.{with_each-unseen}
use Rattle.store_sql_rows.proofs.KeepsLemmas.{all_shown_keep, command_keeps, commands_keep, desk_keeps, imported_keeps, next_keeps, place_keeps, places_keep, shown_keeps}
use Rattle.store_sql_rows.proofs.StoredRowLemmas.{here-row, item-goes, lost, no-row, one-row, put-row, stand-kept}
use Rattle.store_sql_rows.proofs.TableLemmas.{next-either, next-absorb, next-commute, next-at, shown-either, shown-absorb, shown-commute, shown-none, shown-at}
use Rattle.store_sql_rows.proofs.TableLemmas.{row-either, row-absorb, row-commute, row-at, is_lower, lower-absorb, lower-commute, lower-none}
use Rattle.store_sql_rows.proofs.TableLemmas.{place-either, place-absorb, place-commute, place-none, place-at, place-other}
use Rattle.store_sql_rows.proofs.TableLemmas.{entry-either, entry-absorb, entry-commute, entry-at, entry-stays, entry-shows}

-- ---- soundness, table by table

pub record AreSound (kept : Kept) : Type 0 where
  pub desk : is_desk kept.desk ≡ true
  pub panel : can_stand next_said same_panel kept.panel ≡ true
  pub command : can_stand command_said same_command kept.command ≡ true
  pub place : can_stand place_said same_place kept.place ≡ true
  pub shown : can_stand shown_said same_schedule kept.shown ≡ true
  pub imported : can_stand imported_said same_entry kept.imported ≡ true

pub sound-parts : (kept : Kept) → is_sound_in kept ≡ true → AreSound kept
sound-parts kept is =
    let a = and_parts (is_desk kept.desk) _ is in
    let b = and_parts (can_stand next_said same_panel kept.panel) _ a.1 in
    let c = and_parts (can_stand command_said same_command kept.command) _ b.1 in
    let d = and_parts (can_stand place_said same_place kept.place) _ c.1 in
    let e = and_parts (can_stand shown_said same_schedule kept.shown) (can_stand imported_said same_entry kept.imported) d.1 in
    record { desk = a.0; panel = b.0; command = c.0; place = d.0; shown = e.0; imported = e.1 }

sound-from : (kept : Kept) → is_desk kept.desk ≡ true → can_stand next_said same_panel kept.panel ≡ true
    → can_stand command_said same_command kept.command ≡ true → can_stand place_said same_place kept.place ≡ true
    → can_stand shown_said same_schedule kept.shown ≡ true → can_stand imported_said same_entry kept.imported ≡ true
    → is_sound_in kept ≡ true
sound-from kept desk panel command place shown imported =
    and_from _ _ desk (and_from _ _ panel (and_from _ _ command (and_from _ _ place (and_from _ _ shown imported))))

-- where one table changes and still stands, all are sound that were
module _ (kept : Kept) (now : List Row) where
  sound-desk : (is_desk kept.desk ≡ true → is_desk now ≡ true) → is_sound_in kept ≡ true → is_sound_in (record kept { desk = now }) ≡ true
  sound-desk stands is =
      let are = sound-parts kept is in
      sound-from (record kept { desk = now }) (stands are.desk) are.panel are.command are.place are.shown are.imported

  sound-panel : (can_stand next_said same_panel kept.panel ≡ true → can_stand next_said same_panel now ≡ true)
      → is_sound_in kept ≡ true → is_sound_in (record kept { panel = now }) ≡ true
  sound-panel stands is =
      let are = sound-parts kept is in
      sound-from (record kept { panel = now }) are.desk (stands are.panel) are.command are.place are.shown are.imported

  sound-command : (can_stand command_said same_command kept.command ≡ true → can_stand command_said same_command now ≡ true)
      → is_sound_in kept ≡ true → is_sound_in (record kept { command = now }) ≡ true
  sound-command stands is =
      let are = sound-parts kept is in
      sound-from (record kept { command = now }) are.desk are.panel (stands are.command) are.place are.shown are.imported

  sound-place : (can_stand place_said same_place kept.place ≡ true → can_stand place_said same_place now ≡ true)
      → is_sound_in kept ≡ true → is_sound_in (record kept { place = now }) ≡ true
  sound-place stands is =
      let are = sound-parts kept is in
      sound-from (record kept { place = now }) are.desk are.panel are.command (stands are.place) are.shown are.imported

  sound-shown : (can_stand shown_said same_schedule kept.shown ≡ true → can_stand shown_said same_schedule now ≡ true)
      → is_sound_in kept ≡ true → is_sound_in (record kept { shown = now }) ≡ true
  sound-shown stands is =
      let are = sound-parts kept is in
      sound-from (record kept { shown = now }) are.desk are.panel are.command are.place (stands are.shown) are.imported

  sound-imported : (can_stand imported_said same_entry kept.imported ≡ true → can_stand imported_said same_entry now ≡ true)
      → is_sound_in kept ≡ true → is_sound_in (record kept { imported = now }) ≡ true
  sound-imported stands is =
      let are = sound-parts kept is in
      sound-from (record kept { imported = now }) are.desk are.panel are.command are.place are.shown (stands are.imported)

-- ---- changes

pub put_next : (item : NextNumber) (row : Row) (kept : Kept) (now : List Row) → next_said row ≡ Some item
    → HasPut row (of_panel item.panel) kept.panel now
    → (tables_in (record kept { panel = now }) ≡ record (tables_in kept) { next = with_next item (tables_in kept).next })
    × (is_sound_in kept ≡ true → is_sound_in (record kept { panel = now }) ≡ true)
    × Keeps kept (record kept { panel = now })
put_next item row kept now says has =
    let both =
    put-row next_said same_panel with_next (λ panel. 1) next-either item (next-absorb item) (next-commute item) (of_panel item.panel)
    (panel-agrees item.panel) row says kept.panel now has in (
      λ i. record (tables_in kept) { next = both.0 i },
      sound-panel kept now both.1,
      next_keeps kept now row item says has
          (λ a b lost stood. ap (can_stand next_said same_panel) lost
          ∙ stand-kept next_said same_panel with_next (λ panel. 1)
          (of_panel item.panel) (same_panel item)
          (panel-agrees item.panel) a stood)
          (λ a b has. (put-row next_said same_panel with_next (λ panel. 1) next-either item
          (next-absorb item) (next-commute item)
          (of_panel item.panel) (panel-agrees item.panel) row says a b has).1),
    )

pub put_command : (item : KeptRow) (row : Row) (kept : Kept) (now : List Row) → command_said row ≡ Some item
    → HasPut row (of_command item.panel item.number) kept.command now
    → (tables_in (record kept { command = now }) ≡ record (tables_in kept) { row = with_row item (tables_in kept).row })
    × (is_sound_in kept ≡ true → is_sound_in (record kept { command = now }) ≡ true)
    × Keeps kept (record kept { command = now })
put_command item row kept now says has =
    let both = put-row command_said same_command with_row (λ panel number. None) row-either item (row-absorb item) (row-commute item)
    (of_command item.panel item.number) (command-agrees item.panel item.number) row says kept.command now has in (
      λ i. record (tables_in kept) { row = both.0 i },
      sound-command kept now both.1,
      command_keeps kept now row item (of_command item.panel item.number) says has
          (λ a b lost stood. ap (can_stand command_said same_command) lost
          ∙ stand-kept command_said same_command with_row (λ panel number. None)
          (of_command item.panel item.number) (same_command item)
          (command-agrees item.panel item.number) a stood)
          (λ a b has. (put-row command_said same_command with_row (λ panel number. None) row-either item
          (row-absorb item) (row-commute item)
          (of_command item.panel item.number) (command-agrees item.panel item.number) row says a b has).1),
    )

pub drop_commands : (item : RowsBelow) (kept : Kept) (now : List Row) → HasLost (of_lower_command item.panel item.number) kept.command now
    → (tables_in (record kept { command = now }) ≡ record (tables_in kept) { row = without_rows item (tables_in kept).row })
    × (is_sound_in kept ≡ true → is_sound_in (record kept { command = now }) ≡ true)
    × Keeps kept (record kept { command = now })
drop_commands item kept now left =
    let both = lost command_said same_command with_row (λ panel number. None) (of_lower_command item.panel item.number) (is_lower item)
    (lower-agrees item.panel item.number) (without_rows item) (lower-absorb item) (lower-commute item) (lower-none item)
    kept.command now left in (
      λ i. record (tables_in kept) { row = both.0 i },
      sound-command kept now both.1,
      commands_keep kept now (of_lower_command item.panel item.number) left
          (λ a b lost stood. ap (can_stand command_said same_command) lost
          ∙ stand-kept command_said same_command with_row (λ panel number. None)
          (of_lower_command item.panel item.number) (is_lower item)
          (lower-agrees item.panel item.number) a stood),
    )

pub put_place : (item : PlaceValue) (row : Row) (kept : Kept) (now : List Row) → place_said row ≡ Some item
    → HasPut row (of_place item.point item.priority) kept.place now
    → (tables_in (record kept { place = now }) ≡ record (tables_in kept) { places = with_place item (tables_in kept).places })
    × (is_sound_in kept ≡ true → is_sound_in (record kept { place = now }) ≡ true)
    × Keeps kept (record kept { place = now })
put_place item row kept now says has =
    let both = put-row place_said same_place with_place (λ point. empty) place-either item (place-absorb item) (place-commute item)
    (of_place item.point item.priority) (place-agrees item.point item.priority) row says kept.place now has in (
      λ i. record (tables_in kept) { places = both.0 i },
      sound-place kept now both.1,
      place_keeps kept now row item (of_place item.point item.priority) says has
          (λ a b lost stood. ap (can_stand place_said same_place) lost
          ∙ stand-kept place_said same_place with_place (λ point. empty)
          (of_place item.point item.priority) (same_place item)
          (place-agrees item.point item.priority) a stood)
          (λ a b has. (put-row place_said same_place with_place (λ point. empty) place-either item
          (place-absorb item) (place-commute item)
          (of_place item.point item.priority) (place-agrees item.point item.priority) row says a b has).1),
    )

pub clear_place : (item : PlaceValue) (kept : Kept) (now : List Row) → item.value ≡ None
    → HasLost (of_place item.point item.priority) kept.place now
    → (tables_in (record kept { place = now }) ≡ record (tables_in kept) { places = with_place item (tables_in kept).places })
    × (is_sound_in kept ≡ true → is_sound_in (record kept { place = now }) ≡ true)
    × Keeps kept (record kept { place = now })
clear_place item kept now quiet left =
    let both = lost place_said same_place with_place (λ point. empty) (of_place item.point item.priority) (same_place item)
    (place-agrees item.point item.priority) (with_place item) (place-absorb item) (place-commute item) (place-none item quiet)
    kept.place now left in (
      λ i. record (tables_in kept) { places = both.0 i },
      sound-place kept now both.1,
      places_keep kept now (of_place item.point item.priority) left
          (λ a b lost stood. ap (can_stand place_said same_place) lost
          ∙ stand-kept place_said same_place with_place (λ point. empty)
          (of_place item.point item.priority) (same_place item)
          (place-agrees item.point item.priority) a stood),
    )

pub put_shown : (item : ShownValue) (row : Row) (kept : Kept) (now : List Row) → shown_said row ≡ Some item
    → HasPut row (of_schedule item.schedule) kept.shown now
    → (tables_in (record kept { shown = now }) ≡ record (tables_in kept) { shown = with_shown item (tables_in kept).shown })
    × (is_sound_in kept ≡ true → is_sound_in (record kept { shown = now }) ≡ true)
    × Keeps kept (record kept { shown = now })
put_shown item row kept now says has =
    let both = put-row shown_said same_schedule with_shown (λ schedule. None) shown-either item (shown-absorb item) (shown-commute item)
    (of_schedule item.schedule) (schedule-agrees item.schedule) row says kept.shown now has in (
      λ i. record (tables_in kept) { shown = both.0 i },
      sound-shown kept now both.1,
      shown_keeps kept now row item (of_schedule item.schedule) says has
          (λ a b lost stood. ap (can_stand shown_said same_schedule) lost
          ∙ stand-kept shown_said same_schedule with_shown (λ schedule. None)
          (of_schedule item.schedule) (same_schedule item)
          (schedule-agrees item.schedule) a stood)
          (λ a b has. (put-row shown_said same_schedule with_shown (λ schedule. None) shown-either item
          (shown-absorb item) (shown-commute item)
          (of_schedule item.schedule) (schedule-agrees item.schedule) row says a b has).1),
    )

pub clear_shown : (item : ShownValue) (kept : Kept) (now : List Row) → item.shown ≡ None
    → HasLost (of_schedule item.schedule) kept.shown now
    → (tables_in (record kept { shown = now }) ≡ record (tables_in kept) { shown = with_shown item (tables_in kept).shown })
    × (is_sound_in kept ≡ true → is_sound_in (record kept { shown = now }) ≡ true)
    × Keeps kept (record kept { shown = now })
clear_shown item kept now quiet left =
    let both = lost shown_said same_schedule with_shown (λ schedule. None) (of_schedule item.schedule) (same_schedule item)
    (schedule-agrees item.schedule) (with_shown item) (shown-absorb item) (shown-commute item) (shown-none item quiet) kept.shown
    now left in (
      λ i. record (tables_in kept) { shown = both.0 i },
      sound-shown kept now both.1,
      all_shown_keep kept now (of_schedule item.schedule) left
          (λ a b lost stood. ap (can_stand shown_said same_schedule) lost
          ∙ stand-kept shown_said same_schedule with_shown (λ schedule. None)
          (of_schedule item.schedule) (same_schedule item)
          (schedule-agrees item.schedule) a stood),
    )

pub put_imported : (item : ImportedEntry) (row : Row) (kept : Kept) (now : List Row) → imported_said row ≡ Some item
    → HasPut row (of_entry item.calendar (spelling item.entry)) kept.imported now
    → (tables_in (record kept { imported = now }) ≡ record (tables_in kept) { imported = with_imported item (tables_in kept).imported })
    × (is_sound_in kept ≡ true → is_sound_in (record kept { imported = now }) ≡ true)
    × Keeps kept (record kept { imported = now })
put_imported item row kept now says has =
    let both =
    put-row imported_said same_entry with_imported (λ calendar text. false) entry-either item (entry-absorb item) (entry-commute item)
    (of_entry item.calendar (spelling item.entry)) (entry-agrees item.calendar (spelling item.entry)) row says kept.imported now has in (
      λ i. record (tables_in kept) { imported = both.0 i },
      sound-imported kept now both.1,
      imported_keeps kept now row item (of_entry item.calendar (spelling item.entry)) says has,
    )

pub set_last : (moment : ℤ) (old new : Row) (kept : Kept) → kept.desk ≡ old ∷ [] → optional_in (column new 3) ≡ Some (Some moment)
    → (tables_in (record kept { desk = new ∷ [] }) ≡ record (tables_in kept) { last_tick = Some moment })
    × (is_sound_in kept ≡ true → is_sound_in (record kept { desk = new ∷ [] }) ≡ true)
    × Keeps kept (record kept { desk = new ∷ [] })
set_last moment old new kept one says = (
  λ i. record (tables_in kept) { last_tick = unwrap_or (says i) None },
  sound-desk kept (new ∷ []) (λ stood. ap is_some says),
  desk_keeps kept (new ∷ []) (λ _. ap is_some says),
)

pub set_version : (old new : Row) (kept : Kept) → kept.desk ≡ old ∷ [] → column new 3 ≡ column old 3
    → (tables_in (record kept { desk = new ∷ [] }) ≡ tables_in kept)
    × (is_sound_in kept ≡ true → is_sound_in (record kept { desk = new ∷ [] }) ≡ true)
    × Keeps kept (record kept { desk = new ∷ [] })
set_version old new kept one same =
    let last : last_in (new ∷ []) ≡ last_in kept.desk = ap (λ v. unwrap_or (optional_in v) None) same ∙ sym (ap last_in one) in (
      λ i. record (tables_in kept) { last_tick = last i },
      sound-desk kept (new ∷ []) (λ stood. ap (λ v. is_some (optional_in v)) same ∙ sym (ap is_desk one) ∙ stood),
      desk_keeps kept (new ∷ []) (λ stood. ap (λ v. is_some (optional_in v)) same ∙ sym (ap is_desk one) ∙ stood),
    )

-- ---- reads of `panel`

pub no_next : (panel : Text) (kept : Kept) → filter (of_panel panel) kept.panel ≡ [] → (tables_in kept).next panel ≡ 1
no_next panel kept none =
    no-row next_said with_next (λ name. 1) (λ t. t panel) (of_panel panel) (λ y. bytes_eq panel y.panel) (panel-agrees panel)
    (λ y t other. next-at panel y t false other)
    kept.panel none

pub one_next : (panel : Text) (kept : Kept) (row : Row) (item : NextNumber) → filter (of_panel panel) kept.panel ≡ row ∷ []
    → next_said row ≡ Some item
    → (tables_in kept).next panel ≡ item.next
one_next panel kept row item only says =
    one-row next_said with_next (λ name. 1) (λ t. t panel) (of_panel panel) (λ y. bytes_eq panel y.panel) (panel-agrees panel)
    (λ y t other. next-at panel y t false other)
    (λ y. y.next)
    (λ y t here. next-at panel y t true here)
    kept.panel row item only says

pub alike-text : (key a b : Text) → bytes_eq key a ≡ true → bytes_eq key b ≡ true → bytes_eq a b ≡ true
alike-text key a b first second = text-same a b (sym (same-text key a first) ∙ same-text key b second)

pub alike-number : (key m n : ℕ) → (key == m) ≡ true → (key == n) ≡ true → (m == n) ≡ true
alike-number key m n first second = eq-eqb m n (sym (eqb-true key m first) ∙ eqb-true key n second)

-- ---- reads of `command`

pub no_command : (panel : Text) (number : ℕ) (kept : Kept) → filter (of_command panel number) kept.command ≡ []
    → (tables_in kept).row panel number ≡ None
no_command panel number kept none =
    no-row command_said with_row (λ name n. None) (λ t. t panel number) (of_command panel number)
    (λ y. bytes_eq panel y.panel && number == y.number)
    (command-agrees panel number)
    (λ y t other. row-at panel number y t false other)
    kept.command none

pub one_command : (panel : Text) (number : ℕ) (kept : Kept) (row : Row) (item : KeptRow)
    → filter (of_command panel number) kept.command ≡ row ∷ []
    → command_said row ≡ Some item → (tables_in kept).row panel number ≡ Some item.row
one_command panel number kept row item only says =
    one-row command_said with_row (λ name n. None) (λ t. t panel number) (of_command panel number)
    (λ y. bytes_eq panel y.panel && number == y.number)
    (command-agrees panel number)
    (λ y t other. row-at panel number y t false other)
    (λ y. Some y.row)
    (λ y t here. row-at panel number y t true here)
    kept.command row item only says

-- ---- reads of `place`

pub no_place : (point : Text) (priority : ℕ) (kept : Kept) → filter (of_place point priority) kept.place ≡ []
    → get ((tables_in kept).places point) priority ≡ None
no_place point priority kept none =
    no-row place_said with_place (λ name. empty) (λ t. get (t point) priority) (of_place point priority)
    (λ y. bytes_eq point y.point && priority == y.priority)
    (place-agrees point priority)
    (λ y t other. place-at point priority y t false other)
    kept.place none
    ∙ get-empty nat_cmp priority

pub one_place : (point : Text) (priority : ℕ) (kept : Kept) (row : Row) (item : PlaceValue)
    → filter (of_place point priority) kept.place ≡ row ∷ []
    → place_said row ≡ Some item → get ((tables_in kept).places point) priority ≡ item.value
one_place point priority kept row item only says =
    one-row place_said with_place (λ name. empty) (λ t. get (t point) priority) (of_place point priority)
    (λ y. bytes_eq point y.point && priority == y.priority)
    (place-agrees point priority)
    (λ y t other. place-at point priority y t false other)
    (λ y. y.value)
    (λ y t here. place-at point priority y t true here)
    kept.place row item only says

-- no item is of a priority outside 1 to 16
none-outside : (q : ℕ) → ((n : ℕ) → 1 ≤ n → n ≤ 16 → (q == n) ≡ false) → (rows : List Row)
    → filter (λ y. q == y.priority) (filter_map place_said rows) ≡ []
none-outside q outside [] = refl
none-outside q outside (row ∷ rows) =
    sym (item-goes (λ y. q == y.priority) (place_said row) (filter_map place_said rows) []
    (λ y says. let parts = place-parts row y says in outside y.priority parts.at_least_1 parts.at_most_16)
    (sym (none-outside q outside rows)))

nothing-outside : (kept : Kept) (point : Text) (q : ℕ) → ((n : ℕ) → 1 ≤ n → n ≤ 16 → (q == n) ≡ false)
    → get ((tables_in kept).places point) q ≡ None
nothing-outside kept point q outside =
    with_each-unseen with_place (λ t. get (t point) q) (λ y. q == y.priority) (λ y t other. place-other point q y t other)
    (filter_map place_said kept.place) (λ name. empty) (none-outside q outside kept.place)
    ∙ get-empty nat_cmp q

pub outside_places : (point : Text) (kept : Kept) → HasSixteenPlaces ((tables_in kept).places point)
outside_places point kept = record {
  above = nothing-outside kept point 0 (λ n low high. ne_eqb 0 n (λ same. omega arith));
  below = λ q far. nothing-outside kept point q (λ n low high. ne_eqb q n (λ same. omega arith));
}

-- ---- reads of `shown`

pub no_shown : (schedule : Text) (kept : Kept) → filter (of_schedule schedule) kept.shown ≡ [] → (tables_in kept).shown schedule ≡ None
no_shown schedule kept none =
    no-row shown_said with_shown (λ name. None) (λ t. t schedule) (of_schedule schedule) (λ y. bytes_eq schedule y.schedule)
    (schedule-agrees schedule)
    (λ y t other. shown-at schedule y t false other)
    kept.shown none

pub one_shown : (schedule : Text) (kept : Kept) (row : Row) (item : ShownValue) → filter (of_schedule schedule) kept.shown ≡ row ∷ []
    → shown_said row ≡ Some item → (tables_in kept).shown schedule ≡ item.shown
one_shown schedule kept row item only says =
    one-row shown_said with_shown (λ name. None) (λ t. t schedule) (of_schedule schedule) (λ y. bytes_eq schedule y.schedule)
    (schedule-agrees schedule)
    (λ y t other. shown-at schedule y t false other)
    (λ y. y.shown)
    (λ y t here. shown-at schedule y t true here)
    kept.shown row item only says

-- ---- reads of `imported`

pub here_imported : (kept : Kept) (row : Row) (item : ImportedEntry) → Contains kept.imported row → imported_said row ≡ Some item
    → IsTrue ((tables_in kept).imported item.calendar (spelling item.entry))
here_imported kept row item here says =
    here-row imported_said with_imported (λ t. t item.calendar (spelling item.entry))
    (λ y t is. entry-stays item.calendar (spelling item.entry) y t is)
    item (λ t. entry-shows item t) kept.imported row says here.0 here.1 here.2 (λ calendar text. false)

pub not_imported : (calendar text : Text) (kept : Kept) → filter (of_entry calendar text) kept.imported ≡ []
    → (tables_in kept).imported calendar text ≡ false
not_imported calendar text kept none =
    no-row imported_said with_imported (λ name t. false) (λ t. t calendar text) (of_entry calendar text)
    (λ y. bytes_eq calendar y.calendar && bytes_eq text (spelling y.entry)) (entry-agrees calendar text)
    (λ y t other. entry-at calendar text y t false other)
    kept.imported none

-- ---- reads of `desk`

pub one_last : (kept : Kept) (row : Row) (last : Option ℤ) → kept.desk ≡ row ∷ [] → last_said row ≡ Some last
    → (tables_in kept).last_tick ≡ last
one_last kept row last one says = ap last_in one ∙ ap (λ o. unwrap_or o None) says

-- ---- tables of no rows

pub empty_kept : (row : Row) → last_said row ≡ Some None
    → content_in (record { desk = row ∷ []; panel = []; command = []; place = []; shown = []; imported = [] }) ≡ sound no_tables
empty_kept row says = λ i. record { tables = record no_tables { last_tick = unwrap_or (says i) None }; is_sound = is_some (says i) && true }
