-- What could stand can stand still, where rows come and go.
use Rattle.std.proofs.Common.{◌≡◌, Bool, true, false, not, List, [], ◌∷◌, ◌++◌, Option, Some, None, is_some, filter, refl, sym, ap, ◌∙◌, inl, inr}
use Rattle.std.proofs.lemmas.Bool.{cases_Bool, false_from_ne_true, not-false, not_from_true, or_from, or_parts}
use Rattle.std.proofs.lemmas.List.Elements.{filter-append}
use Rattle.std.specs.List.{list_all, list_any}
use Rattle.sqlite_value.specs.Order.{Row, column}
use Rattle.store.specs.Asked.Asked.{AnyName, ArrayOf, EntriesOf, LastTick, NextOf, RowOf, ShownBy}
use Rattle.store.specs.declared.change.ImportedEntry.{ImportedEntry}
use Rattle.store.specs.declared.change.KeptRow.{KeptRow}
use Rattle.store.specs.declared.change.NextNumber.{NextNumber}
use Rattle.store.specs.declared.change.PlaceValue.{PlaceValue}
use Rattle.store.specs.declared.change.ShownValue.{ShownValue}
use Rattle.store_sql_rows.specs.Broken.{Keeps, are_broken, are_unsaid, has_nameless, is_nameless, is_unnumbered}
use Rattle.store_sql_rows.specs.Cells.{is_text, name_in}
use Rattle.store_sql_rows.specs.Rows.{command_said, imported_said, next_said, of_command, of_panel, of_schedule, place_said, shown_said}
use Rattle.store_sql_rows.specs.Rows.{same_command, same_panel, same_place, same_schedule}
use Rattle.store_sql_rows.specs.Stored.{HasLost, HasPut, Kept, can_stand, is_desk}
use Rattle.store_sql_rows.proofs.FoldLemmas.{all-kept, all-put, none-any}
use Rattle.store_sql_rows.proofs.NamelessLemmas.{not_some, unnumbered_silent}

-- ---- the rows that are picked

filter-either : (p q : Row → Bool) (rows : List Row) → filter p (filter q rows) ≡ filter q (filter p rows)
filter-either p q [] = refl
filter-either p q (row ∷ rows) = elim (cases_Bool (p row)) [
  | inl is ↦ elim (cases_Bool (q row)) [
    | inl also ↦ rw (is, also, is) (ap (λ l. row ∷ l) (filter-either p q rows))
    | inr other ↦ rw (is, other) (filter-either p q rows)
  ]
  | inr is ↦ elim (cases_Bool (q row)) [
    | inl also ↦ rw (is, also, is) (filter-either p q rows)
    | inr other ↦ rw (is, other) (filter-either p q rows)
  ]
]

module _ (pick gone : Row → Bool) (old now : List Row) where
  picked_lost : HasLost gone old now → HasLost gone (filter pick old) (filter pick now)
  picked_lost left = ap (filter pick) left ∙ filter-either pick (λ r. not (gone r)) old

  module _ (row : Row) (has : HasPut row gone old now) where
    picked_left : filter (λ r. not (gone r)) (filter pick old) ≡ filter pick has.before ++ filter pick has.after
    picked_left =
        filter-either (λ r. not (gone r)) pick old ∙ ap (filter pick) has.left ∙ filter-append pick has.before has.after

    picked_put : pick row ≡ true → HasPut row gone (filter pick old) (filter pick now)
    picked_put is = record {
      before = filter pick has.before;
      after = filter pick has.after;
      left = picked_left;
      is = ap (filter pick) has.is ∙ filter-append pick has.before (row ∷ has.after) ∙ rw is refl;
    }

    picked_past : pick row ≡ false → HasLost gone (filter pick old) (filter pick now)
    picked_past is =
        ap (filter pick) has.is ∙ filter-append pick has.before (row ∷ has.after) ∙ rw is (sym picked_left)

-- ---- the rows of a key

-- a test of rows that says nothing of one that says something
speaks : {Item : Type 0} (said : Row → Option Item) (test : Row → Bool) → ((row : Row) → test row ≡ true → said row ≡ None)
    → (row : Row) (item : Item) → said row ≡ Some item → test row ≡ false
speaks said test silent row item says =
    false_from_ne_true (test row) (λ is. let e : None ≡ Some item = sym (silent row is) ∙ says in cc)

not_any : (b : Bool) → not b ≡ true → b ≡ false
not_any true is = sym is
not_any false is = refl

module _ (test : Row → Bool) (old now : List Row) (gone : Row → Bool) where
  abbrev passes_not : Row → Bool
  passes_not r = not (test r)

  others_pass : list_any test old ≡ false → list_all passes_not (filter (λ r. not (gone r)) old) ≡ true
  others_pass none = all-kept passes_not (λ r. not (gone r)) old (sym (none-any test old) ∙ ap not none)

  any_left : HasLost gone old now → list_any test old ≡ false → list_any test now ≡ false
  any_left left none = not_any (list_any test now) (none-any test now ∙ ap (list_all passes_not) left ∙ others_pass none)

  any_put : (row : Row) → HasPut row gone old now → test row ≡ false → list_any test old ≡ false → list_any test now ≡ false
  any_put row has passes none =
      let left : list_all passes_not (has.before ++ has.after) ≡ true =
      sym (ap (list_all passes_not) has.left) ∙ others_pass none in
      not_any (list_any test now) (none-any test now ∙ ap (list_all passes_not) has.is
      ∙ all-put passes_not has.before row has.after left (ap not passes))

module _ {Item : Type 0} (said : Row → Option Item) (same : Item → Item → Bool) (gone : Row → Bool)
    (left_stand : (old now : List Row) → HasLost gone old now → can_stand said same old ≡ true → can_stand said same now ≡ true) where
  lost_stands : (pick : Row → Bool) (old now : List Row) → HasLost gone old now → are_broken said same pick old ≡ false
      → are_broken said same pick now ≡ false
  lost_stands pick old now left stood =
      not_from_true (can_stand said same (filter pick now))
      (left_stand (filter pick old) (filter pick now) (picked_lost pick gone old now left)
      (not-false (can_stand said same (filter pick old)) stood))

  put_stands : (row : Row)
      → ((old now : List Row) → HasPut row gone old now → can_stand said same old ≡ true → can_stand said same now ≡ true)
      → (pick : Row → Bool) (old now : List Row) → HasPut row gone old now → are_broken said same pick old ≡ false
      → are_broken said same pick now ≡ false
  put_stands row put_stand pick old now has stood =
      let before : can_stand said same (filter pick old) ≡ true = not-false (can_stand said same (filter pick old)) stood in
      not_from_true (can_stand said same (filter pick now)) (elim (cases_Bool (pick row)) [
        | inl is ↦ put_stand (filter pick old) (filter pick now) (picked_put pick gone old now row has is) before
        | inr is ↦ left_stand (filter pick old) (filter pick now) (picked_past pick gone old now row has is) before
      ])

-- of the rows that are picked each still says something
put_said : {Item : Type 0} (said : Row → Option Item) (gone pick : Row → Bool) (row : Row) (item : Item) → said row ≡ Some item
    → (old now : List Row) → HasPut row gone old now → are_unsaid said pick old ≡ false → are_unsaid said pick now ≡ false
put_said said gone pick row item says old now has stood =
    let some : Row → Bool = λ r. is_some (said r) in
    let before : list_all some (filter pick old) ≡ true = not-false (list_all some (filter pick old)) stood in
    let left : list_all some (filter (λ r. not (gone r)) (filter pick old)) ≡ true =
    all-kept some (λ r. not (gone r)) (filter pick old) before in
    not_from_true (list_all some (filter pick now)) (elim (cases_Bool (pick row)) [
      | inl is ↦
          let picked = picked_put pick gone old now row has is in
          ap (list_all some) picked.is
          ∙ all-put some picked.before row picked.after (sym (ap (list_all some) picked.left) ∙ left) (ap is_some says)
      | inr is ↦ ap (list_all some) (picked_past pick gone old now row has is) ∙ left
    ])

-- ---- names

-- no row is without a name, and no command is numbered below 1
record AreNamed (kept : Kept) : Type 0 where
  panel : list_any is_nameless kept.panel ≡ false
  command : list_any is_nameless kept.command ≡ false
  place : list_any is_nameless kept.place ≡ false
  shown : list_any is_nameless kept.shown ≡ false
  imported : list_any is_nameless kept.imported ≡ false
  numbered : list_any is_unnumbered kept.command ≡ false

named-parts : (kept : Kept) → has_nameless kept ≡ false → AreNamed kept
named-parts kept none =
    let a = or_parts (list_any is_nameless kept.panel) _ none in
    let b = or_parts (list_any is_nameless kept.command) _ a.1 in
    let c = or_parts (list_any is_nameless kept.place) _ b.1 in
    let d = or_parts (list_any is_nameless kept.shown) _ c.1 in
    let e = or_parts (list_any is_nameless kept.imported) (list_any is_unnumbered kept.command) d.1 in
    record { panel = a.0; command = b.0; place = c.0; shown = d.0; imported = e.0; numbered = e.1 }

named-from : (kept : Kept) → AreNamed kept → has_nameless kept ≡ false
named-from kept are =
    or_from _ _ are.panel (or_from _ _ are.command (or_from _ _ are.place (or_from _ _ are.shown (or_from _ _ are.imported are.numbered))))

next_named : (row : Row) → is_nameless row ≡ true → next_said row ≡ None
next_named row is = rw (not_some (name_in (column row 1)) is) refl

command_named : (row : Row) → is_nameless row ≡ true → command_said row ≡ None
command_named row is = rw (not_some (name_in (column row 1)) is) refl

place_named : (row : Row) → is_nameless row ≡ true → place_said row ≡ None
place_named row is = rw (not_some (name_in (column row 1)) is) refl

shown_named : (row : Row) → is_nameless row ≡ true → shown_said row ≡ None
shown_named row is = rw (not_some (name_in (column row 1)) is) refl

imported_named : (row : Row) → is_nameless row ≡ true → imported_said row ≡ None
imported_named row is = rw (not_some (name_in (column row 1)) is) refl

-- ---- changes, table by table

module _ (kept : Kept) (now : List Row) where
  module _ (row : Row) (item : NextNumber) (says : next_said row ≡ Some item) (has : HasPut row (of_panel item.panel) kept.panel now)
      (left_stand : (a b : List Row) → HasLost (of_panel item.panel) a b → can_stand next_said same_panel a ≡ true
      → can_stand next_said same_panel b ≡ true)
      (put_stand : (a b : List Row) → HasPut row (of_panel item.panel) a b → can_stand next_said same_panel a ≡ true
      → can_stand next_said same_panel b ≡ true) where
    pub next_keeps : Keeps kept (record kept { panel = now })
    next_keeps (NextOf panel) stood =
        put_stands next_said same_panel (of_panel item.panel) left_stand row put_stand (of_panel panel) kept.panel now has stood
    next_keeps (RowOf panel number) stood = stood
    next_keeps (ArrayOf point) stood = stood
    next_keeps (ShownBy schedule) stood = stood
    next_keeps (EntriesOf calendar) stood = stood
    next_keeps LastTick stood = stood
    next_keeps AnyName stood =
        let are = named-parts kept stood in named-from (record kept { panel = now })
        (record {
          panel = any_put is_nameless kept.panel now (of_panel item.panel) row has
              (speaks next_said is_nameless next_named row item says) are.panel;
          command = are.command;
          place = are.place;
          shown = are.shown;
          imported = are.imported;
          numbered = are.numbered;
        })

  module _ (row : Row) (item : KeptRow) (gone : Row → Bool) (says : command_said row ≡ Some item) (has : HasPut row gone kept.command now)
      (left_stand : (a b : List Row) → HasLost gone a b → can_stand command_said same_command a ≡ true
      → can_stand command_said same_command b ≡ true)
      (put_stand : (a b : List Row) → HasPut row gone a b → can_stand command_said same_command a ≡ true
      → can_stand command_said same_command b ≡ true) where
    pub command_keeps : Keeps kept (record kept { command = now })
    command_keeps (NextOf panel) stood = stood
    command_keeps (RowOf panel number) stood =
        put_stands command_said same_command gone left_stand row put_stand (of_command panel number) kept.command now has stood
    command_keeps (ArrayOf point) stood = stood
    command_keeps (ShownBy schedule) stood = stood
    command_keeps (EntriesOf calendar) stood = stood
    command_keeps LastTick stood = stood
    command_keeps AnyName stood =
        let are = named-parts kept stood in named-from (record kept { command = now })
        (record {
          panel = are.panel;
          command = any_put is_nameless kept.command now gone row has
              (speaks command_said is_nameless command_named row item says) are.command;
          place = are.place;
          shown = are.shown;
          imported = are.imported;
          numbered = any_put is_unnumbered kept.command now gone row has
              (speaks command_said is_unnumbered unnumbered_silent row item says) are.numbered;
        })

  module _ (gone : Row → Bool) (left : HasLost gone kept.command now)
      (left_stand : (a b : List Row) → HasLost gone a b → can_stand command_said same_command a ≡ true
      → can_stand command_said same_command b ≡ true) where
    pub commands_keep : Keeps kept (record kept { command = now })
    commands_keep (NextOf panel) stood = stood
    commands_keep (RowOf panel number) stood =
        lost_stands command_said same_command gone left_stand (of_command panel number) kept.command now left stood
    commands_keep (ArrayOf point) stood = stood
    commands_keep (ShownBy schedule) stood = stood
    commands_keep (EntriesOf calendar) stood = stood
    commands_keep LastTick stood = stood
    commands_keep AnyName stood =
        let are = named-parts kept stood in named-from (record kept { command = now })
        (record {
          panel = are.panel;
          command = any_left is_nameless kept.command now gone left are.command;
          place = are.place;
          shown = are.shown;
          imported = are.imported;
          numbered = any_left is_unnumbered kept.command now gone left are.numbered;
        })

  module _ (row : Row) (item : PlaceValue) (gone : Row → Bool) (says : place_said row ≡ Some item) (has : HasPut row gone kept.place now)
      (left_stand : (a b : List Row) → HasLost gone a b → can_stand place_said same_place a ≡ true
      → can_stand place_said same_place b ≡ true)
      (put_stand : (a b : List Row) → HasPut row gone a b → can_stand place_said same_place a ≡ true
      → can_stand place_said same_place b ≡ true) where
    pub place_keeps : Keeps kept (record kept { place = now })
    place_keeps (NextOf panel) stood = stood
    place_keeps (RowOf panel number) stood = stood
    place_keeps (ArrayOf point) stood =
        put_stands place_said same_place gone left_stand row put_stand (λ r. is_text point (column r 1)) kept.place now has stood
    place_keeps (ShownBy schedule) stood = stood
    place_keeps (EntriesOf calendar) stood = stood
    place_keeps LastTick stood = stood
    place_keeps AnyName stood =
        let are = named-parts kept stood in named-from (record kept { place = now })
        (record {
          panel = are.panel;
          command = are.command;
          place = any_put is_nameless kept.place now gone row has (speaks place_said is_nameless place_named row item says) are.place;
          shown = are.shown;
          imported = are.imported;
          numbered = are.numbered;
        })

  module _ (gone : Row → Bool) (left : HasLost gone kept.place now)
      (left_stand : (a b : List Row) → HasLost gone a b → can_stand place_said same_place a ≡ true
      → can_stand place_said same_place b ≡ true) where
    pub places_keep : Keeps kept (record kept { place = now })
    places_keep (NextOf panel) stood = stood
    places_keep (RowOf panel number) stood = stood
    places_keep (ArrayOf point) stood =
        lost_stands place_said same_place gone left_stand (λ r. is_text point (column r 1)) kept.place now left stood
    places_keep (ShownBy schedule) stood = stood
    places_keep (EntriesOf calendar) stood = stood
    places_keep LastTick stood = stood
    places_keep AnyName stood =
        let are = named-parts kept stood in named-from (record kept { place = now })
        (record {
          panel = are.panel;
          command = are.command;
          place = any_left is_nameless kept.place now gone left are.place;
          shown = are.shown;
          imported = are.imported;
          numbered = are.numbered;
        })

  module _ (row : Row) (item : ShownValue) (gone : Row → Bool) (says : shown_said row ≡ Some item) (has : HasPut row gone kept.shown now)
      (left_stand : (a b : List Row) → HasLost gone a b → can_stand shown_said same_schedule a ≡ true
      → can_stand shown_said same_schedule b ≡ true)
      (put_stand : (a b : List Row) → HasPut row gone a b → can_stand shown_said same_schedule a ≡ true
      → can_stand shown_said same_schedule b ≡ true) where
    pub shown_keeps : Keeps kept (record kept { shown = now })
    shown_keeps (NextOf panel) stood = stood
    shown_keeps (RowOf panel number) stood = stood
    shown_keeps (ArrayOf point) stood = stood
    shown_keeps (ShownBy schedule) stood =
        put_stands shown_said same_schedule gone left_stand row put_stand (of_schedule schedule) kept.shown now has stood
    shown_keeps (EntriesOf calendar) stood = stood
    shown_keeps LastTick stood = stood
    shown_keeps AnyName stood =
        let are = named-parts kept stood in named-from (record kept { shown = now })
        (record {
          panel = are.panel;
          command = are.command;
          place = are.place;
          shown = any_put is_nameless kept.shown now gone row has (speaks shown_said is_nameless shown_named row item says) are.shown;
          imported = are.imported;
          numbered = are.numbered;
        })

  module _ (gone : Row → Bool) (left : HasLost gone kept.shown now)
      (left_stand : (a b : List Row) → HasLost gone a b → can_stand shown_said same_schedule a ≡ true
      → can_stand shown_said same_schedule b ≡ true) where
    pub all_shown_keep : Keeps kept (record kept { shown = now })
    all_shown_keep (NextOf panel) stood = stood
    all_shown_keep (RowOf panel number) stood = stood
    all_shown_keep (ArrayOf point) stood = stood
    all_shown_keep (ShownBy schedule) stood =
        lost_stands shown_said same_schedule gone left_stand (of_schedule schedule) kept.shown now left stood
    all_shown_keep (EntriesOf calendar) stood = stood
    all_shown_keep LastTick stood = stood
    all_shown_keep AnyName stood =
        let are = named-parts kept stood in named-from (record kept { shown = now })
        (record {
          panel = are.panel;
          command = are.command;
          place = are.place;
          shown = any_left is_nameless kept.shown now gone left are.shown;
          imported = are.imported;
          numbered = are.numbered;
        })

  module _ (row : Row) (item : ImportedEntry) (gone : Row → Bool) (says : imported_said row ≡ Some item)
      (has : HasPut row gone kept.imported now) where
    pub imported_keeps : Keeps kept (record kept { imported = now })
    imported_keeps (NextOf panel) stood = stood
    imported_keeps (RowOf panel number) stood = stood
    imported_keeps (ArrayOf point) stood = stood
    imported_keeps (ShownBy schedule) stood = stood
    imported_keeps (EntriesOf calendar) stood =
        put_said imported_said gone (λ r. is_text calendar (column r 1)) row item says kept.imported now has stood
    imported_keeps LastTick stood = stood
    imported_keeps AnyName stood =
        let are = named-parts kept stood in named-from (record kept { imported = now })
        (record {
          panel = are.panel;
          command = are.command;
          place = are.place;
          shown = are.shown;
          imported = any_put is_nameless kept.imported now gone row has
              (speaks imported_said is_nameless imported_named row item says) are.imported;
          numbered = are.numbered;
        })

  -- another row of `desk`, which stands where the earlier one did
  pub desk_keeps : (is_desk kept.desk ≡ true → is_desk now ≡ true) → Keeps kept (record kept { desk = now })
  desk_keeps still (NextOf panel) stood = stood
  desk_keeps still (RowOf panel number) stood = stood
  desk_keeps still (ArrayOf point) stood = stood
  desk_keeps still (ShownBy schedule) stood = stood
  desk_keeps still (EntriesOf calendar) stood = stood
  desk_keeps still LastTick stood = not_from_true (is_desk now) (still (not-false (is_desk kept.desk) stood))
  desk_keeps still AnyName stood = stood
