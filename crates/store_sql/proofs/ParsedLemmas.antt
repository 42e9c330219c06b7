-- What the answers of the queries under a key tell of the tables.
use Rattle.std.proofs.Common.{◌≡◌, ◌≤◌, ℕ, ℤ, pos, List, [], ◌∷◌, inl, Option, Some, None, is_some, filter, Bool, true, false, not, ◌&&◌, ◌==◌, Contains, Result, Ok, Err, IfOk, IfErr, refl, sym, ap, ◌∙◌}
use Rattle.std.specs.Str.{bytes_eq}
use Rattle.std.proofs.lemmas.Bool.{and_from, and_parts, le-leb}
use Rattle.std.specs.FinMap.{get}
use Rattle.points.specs.declared.command_row.CommandRow.{CommandRow}
use Rattle.points.specs.Name.{IsName}
use Rattle.sqlite_rules.proofs.ListLemmas.{contains_had, has_filtered}
use Rattle.sqlite_value.specs.declared.value.Value.TheVariants.{Int}
use Rattle.sqlite_value.specs.Order.{Row, column}
use Rattle.store_sql_rows.specs.Looking.{Finds}
use Rattle.store_sql_rows.specs.Cells.{count_in, is_count, is_text, name_in, number_in, optional_in}
use Rattle.store_sql_rows.specs.Rows.{command_in, command_said, next_said, of_command, of_panel, of_place, of_schedule, shown_said}
use Rattle.store_sql_rows.specs.Rows.{same_command, same_panel, same_schedule}
use Rattle.store_sql_rows.specs.declared.read_fault.ReadFault.{ReadFault}
use Rattle.store_sql_rows.specs.Stored.{Kept, is_desk, tables_in}
use Rattle.store_sql_rows.specs.Broken.{cannot_stand_in}
use Rattle.store.specs.Asked.Asked.{LastTick, NextOf, RowOf, ShownBy}
use Rattle.store_sql_rows.proofs.BrokenLemmas.{none_stands, one_broken, one_stands, two_broken}
use Rattle.store_sql_rows.proofs.ReadCellLemmas.{command-agrees, panel-agrees, schedule-agrees}
use Rattle.store_sql_rows.proofs.StoredLemmas.{alike-number, alike-text, no_command, no_next, no_place, no_shown, one_command, one_last, one_next, one_place, one_shown}
use Rattle.store_sql.specs.Leaving.{AreSeveral}
use Rattle.store_sql.proofs.ReadCells.{count_here, name_here}
use Rattle.store_sql.proofs.FoundLemmas.{found_none, found_one, found_two}

-- a row that alone is picked is one of the rows, and is picked
picked : (pick : Row → Bool) (rows : List Row) (row : Row) → filter pick rows ≡ row ∷ [] → Contains rows row × (pick row ≡ true)
picked pick rows row one =
    let had = has_filtered pick rows row (rw one (inl refl)) in (contains_had rows row had.0, had.1)

-- what is so at each error
pub if_err : {A E : Type 0} {P : Type 0} (r : Result A E) → P → IfErr r (λ _. P)
if_err (Ok x) p = tt
if_err (Err e) p = p

all_picked : (rows : List Row) → filter (λ row. true) rows ≡ rows
all_picked [] = refl
all_picked (r ∷ rows) = ap (λ l. r ∷ l) (all_picked rows)

module _ (panel : List ℕ) (kept : Kept) (answer : List Row) (named : IsName panel)
    (found : Finds (of_panel panel) (λ row. column row 2 ∷ column row 0 ∷ []) kept.panel answer) where
  pub next_none : answer ≡ [] → (tables_in kept).next panel ≡ 1
  next_none none = no_next panel kept (found_none _ _ kept.panel answer found none)

  pub next_one : (shown_row : Row) (x : ℕ) → answer ≡ shown_row ∷ [] → count_in 1 1_000_000_000_001 (column shown_row 0) ≡ Some x
      → (tables_in kept).next panel ≡ x
  next_one shown_row x one cell =
      let it = found_one _ _ kept.panel answer shown_row found one in
      let here = picked (of_panel panel) kept.panel it.0 it.1 in
      let reads : count_in 1 1_000_000_000_001 (column it.0 2) ≡ Some x =
      ap (λ r. count_in 1 1_000_000_000_001 (column r 0)) (sym it.2) ∙ cell in
      one_next panel kept it.0 (record { panel = panel; next = x }) it.1 (rw (name_here panel (column it.0 1) named here.1, reads) refl)

  pub next_stood_none : answer ≡ [] → cannot_stand_in kept (NextOf panel) ≡ false
  next_stood_none none = none_stands next_said same_panel (of_panel panel) kept.panel (found_none _ _ kept.panel answer found none)

  next_stood : (shown_row : Row) (x : ℕ) → answer ≡ shown_row ∷ [] → count_in 1 1_000_000_000_001 (column shown_row 0) ≡ Some x
      → cannot_stand_in kept (NextOf panel) ≡ false
  next_stood shown_row x one cell =
      let it = found_one _ _ kept.panel answer shown_row found one in
      let here = picked (of_panel panel) kept.panel it.0 it.1 in
      let reads : count_in 1 1_000_000_000_001 (column it.0 2) ≡ Some x =
      ap (λ r. count_in 1 1_000_000_000_001 (column r 0)) (sym it.2) ∙ cell in
      one_stands next_said same_panel (of_panel panel) kept.panel it.0 (record { panel = panel; next = x }) it.1
      (rw (name_here panel (column it.0 1) named here.1, reads) refl)

  next_bad : (shown_row : Row) → answer ≡ shown_row ∷ [] → count_in 1 1_000_000_000_001 (column shown_row 0) ≡ None
      → cannot_stand_in kept (NextOf panel) ≡ true
  next_bad shown_row one cell =
      let it = found_one _ _ kept.panel answer shown_row found one in
      let here = picked (of_panel panel) kept.panel it.0 it.1 in
      let reads : count_in 1 1_000_000_000_001 (column it.0 2) ≡ None =
      ap (λ r. count_in 1 1_000_000_000_001 (column r 0)) (sym it.2) ∙ cell in
      one_broken next_said same_panel (of_panel panel) kept.panel it.0 it.1 (rw (name_here panel (column it.0 1) named here.1, reads) refl)

  pub next_ok : (r : Result (ℕ) ReadFault) (row : Row) → answer ≡ row ∷ []
      → IfOk r (λ x. count_in 1 1_000_000_000_001 (column row 0) ≡ Some x) → IfOk r (λ x. x ≡ (tables_in kept).next panel)
  next_ok (Ok x) row one cell = sym (next_one row x one cell)
  next_ok (Err e) row one cell = tt

  pub next_ok_stood : (r : Result (ℕ) ReadFault) (row : Row) → answer ≡ row ∷ []
      → IfOk r (λ x. count_in 1 1_000_000_000_001 (column row 0) ≡ Some x) → IfOk r (λ _. cannot_stand_in kept (NextOf panel) ≡ false)
  next_ok_stood (Ok x) row one cell = next_stood row x one cell
  next_ok_stood (Err e) row one cell = tt

  pub next_err : (r : Result (ℕ) ReadFault) (row : Row) → answer ≡ row ∷ []
      → IfErr r (λ _. count_in 1 1_000_000_000_001 (column row 0) ≡ None) → IfErr r (λ _. cannot_stand_in kept (NextOf panel) ≡ true)
  next_err (Ok x) row one cell = tt
  next_err (Err e) row one cell = next_bad row one cell

  pub next_several : AreSeveral answer → cannot_stand_in kept (NextOf panel) ≡ true
  next_several two =
      let it = found_two _ _ kept.panel answer two.first two.second two.more found two.is in
      two_broken next_said same_panel (of_panel panel) kept.panel (λ y. bytes_eq panel y.panel) (panel-agrees panel)
      (λ x y first second. alike-text panel x.panel y.panel first second) it.0 it.1 it.2 it.3

module _ (panel : List ℕ) (number : ℕ) (kept : Kept) (answer : List Row)
    (named : IsName panel × (count_in 1 1_000_000_000_000 (Int (pos number)) ≡ Some number))
    (found : Finds (of_command panel number) (λ row. column row 3 ∷ column row 4 ∷ column row 5 ∷ column row 6 ∷ column row 7
    ∷ column row 8 ∷ []) kept.command answer) where
  pub command_none : answer ≡ [] → (tables_in kept).row panel number ≡ None
  command_none none = no_command panel number kept (found_none _ _ kept.command answer found none)

  -- the row of which the one row of the answer shows the cells
  shows_one : (shown_row : Row) (reported : Option CommandRow) → answer ≡ shown_row ∷ []
      → command_in (column shown_row 0) (column shown_row 1) (column shown_row 2) (column shown_row 3) (column shown_row 4)
      (column shown_row 5) ≡ reported
      → (row : Row) × (filter (of_command panel number) kept.command ≡ row ∷ []) × (name_in (column row 1) ≡ Some panel)
      × (column row 2 ≡ Int (pos number))
      × (command_in (column row 3) (column row 4) (column row 5) (column row 6) (column row 7) (column row 8) ≡ reported)
  shows_one shown_row reported one cell =
      let it = found_one _ _ kept.command answer shown_row found one in
      let here = and_parts _ _ (picked (of_command panel number) kept.command it.0 it.1).1 in (
        it.0,
        it.1,
        name_here panel (column it.0 1) named.0 here.0,
        count_here number (column it.0 2) here.1,
        ap (λ r. command_in (column r 0) (column r 1) (column r 2) (column r 3) (column r 4) (column r 5)) (sym it.2) ∙ cell,
      )

  pub command_one : (shown_row : Row) (x : CommandRow) → answer ≡ shown_row ∷ []
      → command_in (column shown_row 0) (column shown_row 1) (column shown_row 2) (column shown_row 3) (column shown_row 4)
      (column shown_row 5) ≡ Some x
      → (tables_in kept).row panel number ≡ Some x
  command_one shown_row x one cell =
      let it = shows_one shown_row (Some x) one cell in
      one_command panel number kept it.0 (record { panel = panel; number = number; row = x }) it.1
      (rw (it.2, it.3, named.1, it.4) refl)

  pub command_stood_none : answer ≡ [] → cannot_stand_in kept (RowOf panel number) ≡ false
  command_stood_none none =
      none_stands command_said same_command (of_command panel number) kept.command (found_none _ _ kept.command answer found none)

  pub command_stood : (shown_row : Row) (x : CommandRow) → answer ≡ shown_row ∷ []
      → command_in (column shown_row 0) (column shown_row 1) (column shown_row 2) (column shown_row 3) (column shown_row 4)
      (column shown_row 5) ≡ Some x
      → cannot_stand_in kept (RowOf panel number) ≡ false
  command_stood shown_row x one cell =
      let it = shows_one shown_row (Some x) one cell in
      one_stands command_said same_command (of_command panel number) kept.command it.0
      (record { panel = panel; number = number; row = x }) it.1 (rw (it.2, it.3, named.1, it.4) refl)

  pub command_bad : (shown_row : Row) → answer ≡ shown_row ∷ []
      → command_in (column shown_row 0) (column shown_row 1) (column shown_row 2) (column shown_row 3) (column shown_row 4)
      (column shown_row 5) ≡ None
      → cannot_stand_in kept (RowOf panel number) ≡ true
  command_bad shown_row one cell =
      let it = shows_one shown_row None one cell in
      one_broken command_said same_command (of_command panel number) kept.command it.0 it.1 (rw (it.2, it.3, named.1, it.4) refl)

  pub command_several : AreSeveral answer → cannot_stand_in kept (RowOf panel number) ≡ true
  command_several two =
      let it = found_two _ _ kept.command answer two.first two.second two.more found two.is in
      two_broken command_said same_command (of_command panel number) kept.command (λ y. bytes_eq panel y.panel && number == y.number)
      (command-agrees panel number)
      (λ x y first second.
      let one = and_parts (bytes_eq panel x.panel) (number == x.number) first in
      let other = and_parts (bytes_eq panel y.panel) (number == y.number) second in
      and_from _ _ (alike-text panel x.panel y.panel one.0 other.0) (alike-number number x.number y.number one.1 other.1))
      it.0 it.1 it.2 it.3

module _ (point : List ℕ) (priority : ℕ) (kept : Kept) (answer : List Row)
    (named : IsName point × (count_in 1 16 (Int (pos priority)) ≡ Some priority))
    (found : Finds (of_place point priority) (λ row. column row 3 ∷ []) kept.place answer) where
  pub place_none : answer ≡ [] → get ((tables_in kept).places point) priority ≡ None
  place_none none = no_place point priority kept (found_none _ _ kept.place answer found none)

  pub place_one : (shown_row : Row) (x : ℤ) → answer ≡ shown_row ∷ [] → number_in (column shown_row 0) ≡ Some x
      → get ((tables_in kept).places point) priority ≡ Some x
  place_one shown_row x one cell =
      let it = found_one _ _ kept.place answer shown_row found one in
      let here = picked (of_place point priority) kept.place it.0 it.1 in
      let text_is : is_text point (column it.0 1) ≡ true = (and_parts _ _ here.1).0 in
      let count_is : is_count priority (column it.0 2) ≡ true = (and_parts _ _ here.1).1 in
      let reads : number_in (column it.0 3) ≡ Some x = ap (λ r. number_in (column r 0)) (sym it.2) ∙ cell in
      one_place point priority kept it.0 (record { point = point; priority = priority; value = Some x }) it.1
      (rw (name_here point (column it.0 1) named.0 text_is, count_here priority (column it.0 2) count_is, named.1, reads) refl)

module _ (schedule : List ℕ) (kept : Kept) (answer : List Row) (named : IsName schedule)
    (found : Finds (of_schedule schedule) (λ row. column row 2 ∷ column row 0 ∷ []) kept.shown answer) where
  pub shown_none : answer ≡ [] → (tables_in kept).shown schedule ≡ None
  shown_none none = no_shown schedule kept (found_none _ _ kept.shown answer found none)

  pub shown_one : (shown_row : Row) (x : Option ℤ) → answer ≡ shown_row ∷ [] → optional_in (column shown_row 0) ≡ Some x
      → (tables_in kept).shown schedule ≡ Some x
  shown_one shown_row x one cell =
      let it = found_one _ _ kept.shown answer shown_row found one in
      let here = picked (of_schedule schedule) kept.shown it.0 it.1 in
      let reads : optional_in (column it.0 2) ≡ Some x = ap (λ r. optional_in (column r 0)) (sym it.2) ∙ cell in
      one_shown schedule kept it.0 (record { schedule = schedule; shown = Some x }) it.1
      (rw (name_here schedule (column it.0 1) named here.1, reads) refl)

  pub shown_stood_none : answer ≡ [] → cannot_stand_in kept (ShownBy schedule) ≡ false
  shown_stood_none none =
      none_stands shown_said same_schedule (of_schedule schedule) kept.shown (found_none _ _ kept.shown answer found none)

  pub shown_stood : (shown_row : Row) (x : Option ℤ) → answer ≡ shown_row ∷ [] → optional_in (column shown_row 0) ≡ Some x
      → cannot_stand_in kept (ShownBy schedule) ≡ false
  shown_stood shown_row x one cell =
      let it = found_one _ _ kept.shown answer shown_row found one in
      let here = picked (of_schedule schedule) kept.shown it.0 it.1 in
      let reads : optional_in (column it.0 2) ≡ Some x = ap (λ r. optional_in (column r 0)) (sym it.2) ∙ cell in
      one_stands shown_said same_schedule (of_schedule schedule) kept.shown it.0 (record { schedule = schedule; shown = Some x }) it.1
      (rw (name_here schedule (column it.0 1) named here.1, reads) refl)

  pub shown_bad : (shown_row : Row) → answer ≡ shown_row ∷ [] → optional_in (column shown_row 0) ≡ None
      → cannot_stand_in kept (ShownBy schedule) ≡ true
  shown_bad shown_row one cell =
      let it = found_one _ _ kept.shown answer shown_row found one in
      let here = picked (of_schedule schedule) kept.shown it.0 it.1 in
      let reads : optional_in (column it.0 2) ≡ None = ap (λ r. optional_in (column r 0)) (sym it.2) ∙ cell in
      one_broken shown_said same_schedule (of_schedule schedule) kept.shown it.0 it.1
      (rw (name_here schedule (column it.0 1) named here.1, reads) refl)

  pub shown_several : AreSeveral answer → cannot_stand_in kept (ShownBy schedule) ≡ true
  shown_several two =
      let it = found_two _ _ kept.shown answer two.first two.second two.more found two.is in
      two_broken shown_said same_schedule (of_schedule schedule) kept.shown (λ y. bytes_eq schedule y.schedule)
      (schedule-agrees schedule) (λ x y first second. alike-text schedule x.schedule y.schedule first second) it.0 it.1 it.2 it.3

-- the one row of `desk`
module _ (kept : Kept) (answer : List Row) (found : Finds (λ row. true) (λ row. column row 2 ∷ column row 3 ∷ []) kept.desk answer) where
  pub last_none : answer ≡ [] → cannot_stand_in kept LastTick ≡ true
  last_none none = ap (λ l. not (is_desk l)) (sym (all_picked kept.desk) ∙ found_none _ _ kept.desk answer found none)

  pub last_several : AreSeveral answer → cannot_stand_in kept LastTick ≡ true
  last_several two =
      let it = found_two _ _ kept.desk answer two.first two.second two.more found two.is in
      ap (λ l. not (is_desk l)) (sym (all_picked kept.desk) ∙ it.3)

  pub last_ok : (r : Result (Option ℤ) ReadFault) (row : Row) → answer ≡ row ∷ [] → IfOk r (λ x. optional_in (column row 1) ≡ Some x)
      → IfOk r (λ x. x ≡ (tables_in kept).last_tick)
  last_ok (Err e) row one cell = tt
  last_ok (Ok x) row one cell =
      let it = found_one _ _ kept.desk answer row found one in
      sym (one_last kept it.0 x (sym (all_picked kept.desk) ∙ it.1) (ap (λ r. optional_in (column r 1)) (sym it.2) ∙ cell))

  pub last_ok_stood : (r : Result (Option ℤ) ReadFault) (row : Row) → answer ≡ row ∷ []
      → IfOk r (λ x. optional_in (column row 1) ≡ Some x) → IfOk r (λ _. cannot_stand_in kept LastTick ≡ false)
  last_ok_stood (Err e) row one cell = tt
  last_ok_stood (Ok x) row one cell =
      let it = found_one _ _ kept.desk answer row found one in
      ap (λ l. not (is_desk l)) (sym (all_picked kept.desk) ∙ it.1)
      ∙ ap (λ o. not (is_some o)) (ap (λ r. optional_in (column r 1)) (sym it.2) ∙ cell)

  pub last_err : (r : Result (Option ℤ) ReadFault) (row : Row) → answer ≡ row ∷ [] → IfErr r (λ _. optional_in (column row 1) ≡ None)
      → IfErr r (λ _. cannot_stand_in kept LastTick ≡ true)
  last_err (Ok x) row one cell = tt
  last_err (Err e) row one cell =
      let it = found_one _ _ kept.desk answer row found one in
      ap (λ l. not (is_desk l)) (sym (all_picked kept.desk) ∙ it.1)
      ∙ ap (λ o. not (is_some o)) (ap (λ r. optional_in (column r 1)) (sym it.2) ∙ cell)

pub count_given : (least greatest count : ℕ) → least ≤ count → count ≤ greatest → count_in least greatest (Int (pos count)) ≡ Some count
count_given least greatest count low high = rw (le-leb least count low, le-leb count greatest high) refl
