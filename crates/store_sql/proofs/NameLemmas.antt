-- What the answers of the queries on names tell, and which names stand.
use Rattle.std.proofs.Common.{◌≡◌, ◌≤◌, ◌⊎◌, ℕ, List, ◌∷◌, inl, inr, Option, Some, None, IsSome, is_some, Result, Ok, Err, IfOk, Bool, true, false, not, filter, length, map, refl, sym, ap, ◌∙◌, subst, arith, true≢false, nat_cmp, []}
use Rattle.std.specs.Cmp.{nat_cmp_total}
use Rattle.std.specs.FinMap.{empty, get, get-empty, nat_cmp-IsAntisymmetric, same_map}
use Rattle.std.specs.List.{list_any}
use Rattle.std.specs.Ordering.{is_lt}
use Rattle.std.proofs.lemmas.Bool.{and_from, and_parts, both_ways, cases_order, or_from, or_left, or_right}
use Rattle.std.proofs.lemmas.List.Sorted.{length_permutation}
use Rattle.points.specs.Name.{IsName}
use Rattle.points.specs.PriorityArray.{HasSixteenPlaces, Places}
use Rattle.sqlite.specs.Effect.{Database}
use Rattle.sqlite_rules.specs.Lists.{Has}
use Rattle.sqlite_rules.proofs.ListLemmas.{has_filtered}
use Rattle.sqlite_value.specs.declared.value.Value.TheVariants.{Text as TextCell}
use Rattle.sqlite_value.specs.Order.{Row, column, value_cmp}
use Rattle.sqlite_value.proofs.OrderLemmas.{value_cmp-Text}
use Rattle.store_sql_rows.specs.Broken.{cannot_stand_in, is_nameless, is_unnumbered}
use Rattle.store_sql_rows.specs.Looking.{Finds, FindsLeast, is_from_text}
use Rattle.store_sql_rows.specs.Ours.{IsOurs, kept_in}
use Rattle.store.specs.Asked.Asked.{AnyName, NextOf}
use Rattle.store.specs.Listed.{AreNames, AreTexts, HasCalendar, HasPanel, HasPoint, HasSchedule}
use Rattle.store.specs.declared.names.Names.{Names}
use Rattle.store.specs.Tables.{Tables}
use Rattle.points.specs.Texts.{Text}
use Rattle.dates.specs.declared.entry.Entry.{Entry}
use Rattle.dates.specs.Entry.{spelling}
use Rattle.store_sql_rows.specs.Cells.{is_below, is_count, is_text, name_in}
use Rattle.store_sql_rows.specs.Rows.{next_said, of_command, of_lower_command, of_panel, of_place, of_schedule, same_panel}
use Rattle.store_sql_rows.specs.Stored.{Kept, can_stand, tables_in}
use Rattle.store_sql_rows.specs.declared.read_fault.ReadFault.{ReadFault}
use Rattle.store_sql_rows.proofs.BrokenLemmas.{has_any, has_none}
use Rattle.store_sql_rows.proofs.NamedLemmas.{AreTexted, command_texted, imported_texted, panel_texted, place_texted, shown_texted}
use Rattle.store_sql_rows.proofs.ReadCellLemmas.{name-cell, text-same}
use Rattle.store_sql_rows.proofs.StoredLemmas.{no_command, no_next, no_place, no_shown}
use Rattle.store_sql.specs.declared.names.NameList.{NameList}
use Rattle.store_sql.specs.declared.names.NameList.TheVariants.{Calendars, Panels, Points, Schedules}
use Rattle.store_sql.specs.Naming.{AreAll, AreNumbered, HasName, HasNoName, IsGood, IsKept, IsLesser, IsListed, IsNumbered, StandsIn, Tells}
use Rattle.store_sql.specs.Stepping.{IsNextNumber}
use Rattle.store_sql.specs.Texts.{IsBefore, IsNextEntry, IsNextText, IsTextAt}
use Rattle.store_sql.proofs.EntryLemmas.{imported_has, imported_row, some_passes}
use Rattle.store_sql.proofs.FoundLemmas.{found_none}
use Rattle.store_sql.proofs.ReadCells.{text_here}
use Rattle.store_sql.proofs.NumberLemmas.{no_row, nothing_passes, passes_nothing}
use Rattle.store_sql.proofs.TextLemmas.{before_then, from_ge, ge_from, none_before_empty, not_lt, three_ways}

-- ---- what an answer tells

module _ (from : Text) (table answer : List Row) (found : FindsLeast (λ row. is_from_text from (column row 1)) 1 table answer) where
  pub name_none : answer ≡ [] → IsNextText (HasName table) from None
  name_none none text has past =
      passes_nothing (λ row. is_from_text from (column row 1)) table has.0 (found.none none) has.1
      (ap (is_from_text from) has.2 ∙ from_ge text from past)

  pub name_some : (shown : Row) (more : List Row) (name : Text) → answer ≡ shown ∷ more → name_in (column shown 0) ≡ Some name
      → IsTextAt (HasName table) from name
  name_some shown more name is reads =
      let it = found.some shown more is in
      let cell : column shown 0 ≡ column it.0 1 = ap (λ r. column r 0) it.3 in
      let text : column it.0 1 ≡ TextCell name = name-cell (column it.0 1) name (ap name_in (sym cell) ∙ reads) in
      record {
        past = ge_from name from (ap (is_from_text from) (sym text) ∙ it.2);
        least = λ other has past before.
            let lowest = it.5 has.0 has.1 (ap (is_from_text from) has.2 ∙ from_ge other from past) in
            not_lt other name (ap is_lt (sym (value_cmp-Text other name))
            ∙ subst (λ v. is_lt (value_cmp v (TextCell name)) ≡ false) has.2
            (subst (λ v. is_lt (value_cmp (column has.0 1) v) ≡ false) text lowest)) before;
      }

  pub name_bad : (shown : Row) (more : List Row) → answer ≡ shown ∷ more → name_in (column shown 0) ≡ None → HasNoName table
  name_bad shown more is reads =
      let it = found.some shown more is in
      let cell : column shown 0 ≡ column it.0 1 = ap (λ r. column r 0) it.3 in
      (it.0, it.1, ap name_in (sym cell) ∙ reads)

-- ---- a row without a name

any_nameless : (rows : List Row) → HasNoName rows → list_any is_nameless rows ≡ true
any_nameless rows has = has_any is_nameless rows has.0 has.1 (ap (λ o. not (is_some o)) has.2)

pub bad_numbered : (kept : Kept) → HasNoName kept.panel → cannot_stand_in kept AnyName ≡ true
bad_numbered kept has = or_left (list_any is_nameless kept.panel) _ (any_nameless kept.panel has)

pub bad_commanding : (kept : Kept) → HasNoName kept.command → cannot_stand_in kept AnyName ≡ true
bad_commanding kept has =
    or_right (list_any is_nameless kept.panel) _ (or_left (list_any is_nameless kept.command) _ (any_nameless kept.command has))

pub bad_point : (kept : Kept) → HasNoName kept.place → cannot_stand_in kept AnyName ≡ true
bad_point kept has =
    or_right (list_any is_nameless kept.panel) _ (or_right (list_any is_nameless kept.command) _
    (or_left (list_any is_nameless kept.place) _ (any_nameless kept.place has)))

pub bad_schedule : (kept : Kept) → HasNoName kept.shown → cannot_stand_in kept AnyName ≡ true
bad_schedule kept has =
    or_right (list_any is_nameless kept.panel) _ (or_right (list_any is_nameless kept.command) _
    (or_right (list_any is_nameless kept.place) _ (or_left (list_any is_nameless kept.shown) _ (any_nameless kept.shown has))))

pub bad_calendar : (kept : Kept) → HasNoName kept.imported → cannot_stand_in kept AnyName ≡ true
bad_calendar kept has =
    or_right (list_any is_nameless kept.panel) _ (or_right (list_any is_nameless kept.command) _
    (or_right (list_any is_nameless kept.place) _ (or_right (list_any is_nameless kept.shown) _
    (or_left (list_any is_nameless kept.imported) _ (any_nameless kept.imported has)))))

-- ---- a panel's rows with a number below 1

module _ (panel : Text) (kept : Kept) (answer : List Row)
    (found : Finds (of_lower_command panel 1) (λ row. column row 2 ∷ []) kept.command answer) where
  pub numbers_none : answer ≡ [] → AreNumbered kept panel
  numbers_none none row here name = of (is_unnumbered row) refl
    where
      of : (b : Bool) → is_unnumbered row ≡ b → b ≡ false
      of false is = refl
      of true is = absurd (passes_nothing (of_lower_command panel 1) kept.command row (found_none _ _ kept.command answer found none) here
          (and_from _ _ (ap (is_text panel) name ∙ text-same panel panel refl) is))

  pub numbers_some : (length answer ≡ 0 → ⊥) → cannot_stand_in kept AnyName ≡ true
  numbers_some some = of (filter (of_lower_command panel 1) kept.command) refl
    where
      below : (row : Row) → Has kept.command row → is_unnumbered row ≡ true → cannot_stand_in kept AnyName ≡ true
      below row here is =
          or_right (list_any is_nameless kept.panel) _ (or_right (list_any is_nameless kept.command) _
          (or_right (list_any is_nameless kept.place) _ (or_right (list_any is_nameless kept.shown) _
          (or_right (list_any is_nameless kept.imported) _ (has_any is_unnumbered kept.command row here is)))))

      of : (rows : List Row) → filter (of_lower_command panel 1) kept.command ≡ rows → cannot_stand_in kept AnyName ≡ true
      of [] is = absurd (some (length_permutation _ _ found.shown ∙ ap (λ l. length (map (λ (r : Row). column r 2 ∷ []) l)) is))
      of (row ∷ more) is =
          let had = has_filtered (of_lower_command panel 1) kept.command row (subst (λ l. Has l row) (sym is) (inl refl)) in
          below row had.0 (and_parts (is_text panel (column row 1)) (is_below 1 (column row 2)) had.1).1

-- ---- the next of fewer names, and of two lists

pub next_fewer : (Many Few : Text → Type 0) (from : Text) (o : Option Text) → ((text : Text) → Few text → Many text)
    → IsNextText Many from o → IsNextText Few from o
next_fewer Many Few from None fewer none = λ text is past. none text (fewer text is) past
next_fewer Many Few from (Some text) fewer at =
    record { past = at.past; least = λ other is past before. at.least other (fewer other is) past before }

module _ (One Other : Text → Type 0) (from : Text) where
  abbrev Either : Text → Type 0
  Either name = One name ⊎ Other name

  pub lesser_other : (a b : Text) → IsTextAt One from a → IsTextAt Other from b → IsBefore b a → IsTextAt Either from b
  lesser_other a b one other less = record {
    past = other.past;
    least = λ t is past before. elim is [
      | inl first ↦ one.least t first past (before_then t b a before less)
      | inr second ↦ other.least t second past before
    ];
  }

  pub lesser_one : (a b : Text) → IsTextAt One from a → IsTextAt Other from b → (IsBefore b a → ⊥) → IsTextAt Either from a
  lesser_one a b one other more = record {
    past = one.past;
    least = λ t is past before. elim is [
      | inl first ↦ one.least t first past before
      | inr second ↦ other.least t second past (elim (three_ways a b) [
        | inl less ↦ before_then t a b before less
        | inr rest ↦ elim rest [
          | inl same ↦ subst (IsBefore t) same before
          | inr less ↦ absurd (more less)
        ]
      ])
    ];
  }

  pub only_other : (o : Option Text) → IsNextText One from None → IsNextText Other from o → IsNextText Either from o
  only_other None none other = λ t is past. elim is [
    | inl first ↦ none t first past
    | inr second ↦ other t second past
  ]
  only_other (Some b) none other = record {
    past = other.past;
    least = λ t is past before. elim is [
      | inl first ↦ none t first past
      | inr second ↦ other.least t second past before
    ];
  }

  pub only_one : (o : Option Text) → IsNextText One from o → IsNextText Other from None → IsNextText Either from o
  only_one None one none = λ t is past. elim is [
    | inl first ↦ one t first past
    | inr second ↦ none t second past
  ]
  only_one (Some a) one none = record {
    past = one.past;
    least = λ t is past before. elim is [
      | inl first ↦ one.least t first past before
      | inr second ↦ none t second past
    ];
  }

  pub next_either : (first second result : Option Text) → IsLesser first second result → IsNextText One from first
      → IsNextText Other from second → IsNextText Either from result
  next_either None second result is one other = subst (IsNextText Either from) (sym is) (only_other second one other)
  next_either (Some a) None result is one other = subst (IsNextText Either from) (sym is) (only_one (Some a) one other)
  next_either (Some a) (Some b) result is one other = elim is [
    | inl second ↦ subst (IsNextText Either from) (sym second.0) (lesser_other a b one other second.1)
    | inr first ↦ subst (IsNextText Either from) (sym first.0) (lesser_one a b one other first.1)
  ]

-- ---- a name that stands is a row's

pub schedule_named : (kept : Kept) (name : Text) → HasSchedule (tables_in kept) name → HasName kept.shown name
schedule_named kept name is = elim (some_passes (of_schedule name) kept.shown) [
  | inl none ↦ absurd (both_ways (is_some ((tables_in kept).shown name)) (ap is_some (no_shown name kept none)) is)
  | inr found ↦ (found.0, found.1, text_here name (column found.0 1) found.2)
]

pub calendar_named : (kept : Kept) (name : Text) → HasCalendar (tables_in kept) name → HasName kept.imported name
calendar_named kept name is =
    let row = imported_row kept name is.0 is.1 in
    (row.0, row.1, text_here name (column row.0 1) row.2)

no_places : (kept : Kept) (name : Text) → ((q : ℕ) → get ((tables_in kept).places name) q ≡ None) → (tables_in kept).places name ≡ empty
no_places kept name none =
    same_map nat_cmp_total nat_cmp-IsAntisymmetric ((tables_in kept).places name) empty (λ q. none q ∙ sym (get-empty nat_cmp q))

pub point_named : (kept : Kept) (name : Text) → HasPoint (tables_in kept) name → HasName kept.place name
point_named kept name is = elim (some_passes (λ row. is_text name (column row 1)) kept.place) [
  | inl none ↦ absurd (is (no_places kept name (λ q. no_place name q kept (nothing_passes (of_place name q) kept.place
      (λ row h at. passes_nothing (λ row. is_text name (column row 1)) kept.place row none h
      (and_parts (is_text name (column row 1)) (is_count q (column row 2)) at).0)))))
  | inr found ↦ (found.0, found.1, text_here name (column found.0 1) found.2)
]

pub panel_named : (kept : Kept) (name : Text) → HasPanel (tables_in kept) name → HasName kept.panel name ⊎ HasName kept.command name
panel_named kept name (inl other) = elim (some_passes (of_panel name) kept.panel) [
  | inl none ↦ absurd (other (no_next name kept none))
  | inr found ↦ inl (found.0, found.1, text_here name (column found.0 1) found.2)
]
panel_named kept name (inr row) = elim (some_passes (of_command name row.0) kept.command) [
  | inl none ↦ absurd (both_ways (is_some ((tables_in kept).row name row.0)) (ap is_some (no_command name row.0 kept none)) row.1)
  | inr found ↦ inr (
    found.0,
    found.1,
    text_here name (column found.0 1)
        (and_parts (is_text name (column found.0 1)) (is_count row.0 (column found.0 2)) found.2).0,
  )
]

-- ---- whether a name stands

pub calendar_tells : (kept : Kept) (name : Text) (o : Option Entry) → IsNextEntry kept name [] o
    → Tells (HasCalendar (tables_in kept) name) (is_some o)
calendar_tells kept name None none = record {
  held = λ some. absurd (true≢false (sym some));
  gone = λ _ has. none has.0 (imported_has kept name has.0 has.1) (λ before. none_before_empty has.0 before);
}
calendar_tells kept name (Some entry) at = record {
  held = λ _. (spelling entry, at.here);
  gone = λ none. absurd (true≢false none);
}

pub panel_next : (tables : Tables) (name : Text) → (tables.next name ≡ 1 → ⊥) → Tells (HasPanel tables name) true
panel_next tables name other = record { held = λ _. inl other; gone = λ none. absurd (true≢false none) }

-- a panel whose next number is 1 stands by a row
pub panel_tells : (tables : Tables) (name : Text) (b : Bool) → tables.next name ≡ 1
    → Tells ((number : ℕ) × IsSome (tables.row name number)) b → Tells (HasPanel tables name) b
panel_tells tables name b one tells = record {
  held = λ is. inr (tells.held is);
  gone = λ is has. elim has [
    | inl other ↦ other one
    | inr row ↦ tells.gone is row
  ];
}

-- it is reported, and its next number can stand
abbrev pub IsPanelTold : Kept → Text → Bool → Type 0
IsPanelTold kept name stands = Tells (HasPanel (tables_in kept) name) stands × (cannot_stand_in kept (NextOf name) ≡ false)

pub panel_reported : (kept : Kept) (name : Text) (r : Result Bool ReadFault) → (tables_in kept).next name ≡ 1
    → cannot_stand_in kept (NextOf name) ≡ false
    → IfOk r (Tells ((number : ℕ) × IsSome ((tables_in kept).row name number))) → IfOk r (IsPanelTold kept name)
panel_reported kept name (Ok b) one next tells = (panel_tells (tables_in kept) name b one tells, next)
panel_reported kept name (Err e) one next tells = tt

pub panel_numbered : (kept : Kept) (name : Text) (r : Result Bool ReadFault) → AreNumbered kept name
    → IfOk r (IsPanelTold kept name) → IfOk r (IsNumbered kept name)
panel_numbered kept name (Ok b) numbered told = record { tells = told.0; numbered = numbered; next = told.1 }
panel_numbered kept name (Err e) numbered tells = tt

-- whether a panel has a row
pub row_none : (kept : Kept) (panel : Text) → IsNextNumber kept panel 1 None
    → Tells ((number : ℕ) × IsSome ((tables_in kept).row panel number)) false
row_none kept panel none = record {
  held = λ is. absurd (true≢false (sym is));
  gone = λ _ row. true≢false (sym row.1 ∙ ap is_some (no_row kept panel row.0 (λ is. none row.0 is.least is)));
}

-- an array with a value, and one without
pub value_held : (places : Places) (priority : ℕ) → is_some (get places priority) ≡ true → Tells (places ≡ empty → ⊥) true
value_held places priority some = record {
  held = λ _ none. both_ways (is_some (get places priority)) (ap is_some (ap (λ p. get p priority) none ∙ get-empty nat_cmp priority)) some;
  gone = λ none. absurd (true≢false none);
}

pub value_gone : (places : Places) → HasSixteenPlaces places → ((q : ℕ) → 1 ≤ q → q ≤ 16 → get places q ≡ None)
    → Tells (places ≡ empty → ⊥) false
value_gone places sixteen none = record {
  held = λ some. absurd (true≢false (sym some));
  gone = λ _ has. has (same_map nat_cmp_total nat_cmp-IsAntisymmetric places empty (λ q. all q ∙ sym (get-empty nat_cmp q)));
}
  where
    all : (q : ℕ) → get places q ≡ None
    all q = elim (cases_order q 0) [
      | inl first ↦ ap (get places) first ∙ sixteen.above
      | inr rest ↦ elim (cases_order q 17) [
        | inl same ↦ sixteen.below q (omega (arith, same))
        | inr apart ↦ elim apart [
          | inl less ↦ none q (omega (arith, rest)) (omega (arith, less))
          | inr more ↦ sixteen.below q (omega (arith, more))
        ]
      ]
    ]

-- ---- what is kept under a name that stands

pub stands_kept : (list : NameList) (kept : Kept) (name : Text) → StandsIn list (tables_in kept) name → IsKept list kept name
unfolding StandsIn IsKept
stands_kept Panels kept name is = panel_named kept name is
stands_kept Points kept name is = point_named kept name is
stands_kept Schedules kept name is = schedule_named kept name is
stands_kept Calendars kept name is = calendar_named kept name is

pub panels_listed : (kept : Kept) (name : Text) (stands : Bool) → IsName name → IsNumbered kept name stands → IsListed Panels kept name stands
unfolding StandsIn IsGood
panels_listed kept name stands named is = record { tells = is.tells; good = (named, is.numbered, is.next) }

pub points_listed : (kept : Kept) (name : Text) (stands : Bool) → IsName name → Tells (HasPoint (tables_in kept) name) stands
    → IsListed Points kept name stands
unfolding StandsIn IsGood
points_listed kept name stands named is = record { tells = is; good = named }

pub schedules_listed : (kept : Kept) (name : Text) (stands : Bool) → IsName name → Tells (HasSchedule (tables_in kept) name) stands
    → IsListed Schedules kept name stands
unfolding StandsIn IsGood
schedules_listed kept name stands named is = record { tells = is; good = named }

pub calendars_listed : (kept : Kept) (name : Text) (stands : Bool) → IsName name → Tells (HasCalendar (tables_in kept) name) stands
    → IsListed Calendars kept name stands
unfolding StandsIn IsGood
calendars_listed kept name stands named is = record { tells = is; good = named }

pub panels_reported : (kept : Kept) (name : Text) (r : Result Bool ReadFault) → IsName name → IfOk r (IsNumbered kept name)
    → IfOk r (IsListed Panels kept name)
panels_reported kept name (Ok b) named is = panels_listed kept name b named is
panels_reported kept name (Err e) named is = tt

pub points_reported : (kept : Kept) (name : Text) (r : Result Bool ReadFault) → IsName name → IfOk r (Tells (HasPoint (tables_in kept) name))
    → IfOk r (IsListed Points kept name)
points_reported kept name (Ok b) named is = points_listed kept name b named is
points_reported kept name (Err e) named is = tt

pub schedules_reported : (kept : Kept) (name : Text) (r : Result Bool ReadFault) → IsName name
    → IfOk r (Tells (HasSchedule (tables_in kept) name)) → IfOk r (IsListed Schedules kept name)
schedules_reported kept name (Ok b) named is = schedules_listed kept name b named is
schedules_reported kept name (Err e) named is = tt

pub calendars_reported : (kept : Kept) (name : Text) (r : Result Bool ReadFault) → IsName name
    → IfOk r (Tells (HasCalendar (tables_in kept) name)) → IfOk r (IsListed Calendars kept name)
calendars_reported kept name (Ok b) named is = calendars_listed kept name b named is
calendars_reported kept name (Err e) named is = tt

pub kept_panels : (kept : Kept) → IsKept Panels kept ≡ (λ name. HasName kept.panel name ⊎ HasName kept.command name)
unfolding IsKept
kept_panels kept = refl

pub kept_points : (kept : Kept) → IsKept Points kept ≡ HasName kept.place
unfolding IsKept
kept_points kept = refl

pub kept_schedules : (kept : Kept) → IsKept Schedules kept ≡ HasName kept.shown
unfolding IsKept
kept_schedules kept = refl

pub kept_calendars : (kept : Kept) → IsKept Calendars kept ≡ HasName kept.imported
unfolding IsKept
kept_calendars kept = refl

-- ---- nothing is nameless where what is kept under each name is good

named_row : (rows : List Row) → AreTexted rows → ((name : Text) → HasName rows name → IsName name) → list_any is_nameless rows ≡ false
named_row rows texted good = has_none is_nameless rows (λ row here.
    let text = texted row here in
    let named : IsName text.0 = good text.0 (row, here, text.1) in
    ap (λ v. not (is_some (name_in v))) text.1 ∙ rw named refl)

pub none_nameless : (db : Database) → IsOurs db
    → ((list : NameList) (name : Text) → IsKept list (kept_in db.trees) name → IsGood list (kept_in db.trees) name)
    → cannot_stand_in (kept_in db.trees) AnyName ≡ false
unfolding IsKept IsGood
none_nameless db ours good =
    or_from (list_any is_nameless (kept_in db.trees).panel) _
    (named_row (kept_in db.trees).panel (panel_texted db ours) (λ name has. (good Panels name (inl has)).0))
    (or_from (list_any is_nameless (kept_in db.trees).command) _
    (named_row (kept_in db.trees).command (command_texted db ours) (λ name has. (good Panels name (inr has)).0))
    (or_from (list_any is_nameless (kept_in db.trees).place) _
    (named_row (kept_in db.trees).place (place_texted db ours) (λ name has. good Points name has))
    (or_from (list_any is_nameless (kept_in db.trees).shown) _
    (named_row (kept_in db.trees).shown (shown_texted db ours) (λ name has. good Schedules name has))
    (or_from (list_any is_nameless (kept_in db.trees).imported) _
    (named_row (kept_in db.trees).imported (imported_texted db ours) (λ name has. good Calendars name has))
    (has_none is_unnumbered (kept_in db.trees).command (λ row here.
    let text = command_texted db ours row here in (good Panels text.0 (inr (row, here, text.1))).1 row here text.1))))))

-- each next number can stand
pub nexts_stand : (kept : Kept) → ((list : NameList) (name : Text) → IsKept list kept name → IsGood list kept name) → (panel : Text)
    → cannot_stand_in kept (NextOf panel) ≡ false
unfolding IsKept IsGood
nexts_stand kept good panel = elim (some_passes (of_panel panel) kept.panel) [
  | inl none ↦ ap (λ rows. not (can_stand next_said same_panel rows)) none
  | inr found ↦ (good Panels panel (inl (found.0, found.1, text_here panel (column found.0 1) found.2))).2
]

-- the four lists are good
pub four_good : (kept : Kept) (panels points schedules calendars : List Text) → AreAll Panels kept panels → AreAll Points kept points
    → AreAll Schedules kept schedules → AreAll Calendars kept calendars
    → (list : NameList) (name : Text) → IsKept list kept name → IsGood list kept name
four_good kept panels points schedules calendars p q s c Panels = p.good
four_good kept panels points schedules calendars p q s c Points = q.good
four_good kept panels points schedules calendars p q s c Schedules = s.good
four_good kept panels points schedules calendars p q s c Calendars = c.good

pub all_stand : (tables : Tables) (names : Names) → AreTexts (StandsIn Panels tables) names.panels.items
    → AreTexts (StandsIn Points tables) names.points.items
    → AreTexts (StandsIn Schedules tables) names.schedules.items → AreTexts (StandsIn Calendars tables) names.calendars.items
    → AreNames tables names
unfolding StandsIn
all_stand tables names panels points schedules calendars =
    record { panels = panels; points = points; schedules = schedules; calendars = calendars }
