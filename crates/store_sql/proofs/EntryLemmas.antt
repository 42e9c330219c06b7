-- What the answers of the queries on the entries of a calendar tell.
use Rattle.std.proofs.Common.{◌≡◌, ◌&&◌, ◌⊎◌, ◌<◌, ◌+◌, ◌++◌, ℕ, List, [], ◌∷◌, inl, inr, Option, Some, None, filter, map, take, get_or, length, Bool, true, false, IsTrue, refl, sym, ap, ◌∙◌, subst, true≢false}
use Rattle.std.specs.Cmp.Lexicographic.{nat_list_eq_equiv}
use Rattle.std.specs.List.{Contains, list_any}
use Rattle.std.specs.Ordering.{is_lt}
use Rattle.std.specs.Str.{bytes_eq}
use Rattle.std.proofs.lemmas.Bool.{and_from, and_parts}
use Rattle.std.proofs.lemmas.List.{map-append, map_more}
use Rattle.std.proofs.lemmas.Map.Views.{Contains-from_any, list_any-from_Contains}
use Rattle.std.proofs.lemmas.Slice.Eq.{bytes_eq-Decides}
use Rattle.dates.specs.declared.entry.Entry.{Entry}
use Rattle.dates.specs.Entry.{spelling}
use Rattle.points.specs.Name.{IsName}
use Rattle.sqlite_rules.specs.Lists.{Has}
use Rattle.sqlite_rules.proofs.ListLemmas.{contains_had, has_contained, has_filtered}
use Rattle.sqlite_rules.proofs.ProbeLemmas.{has_mapped, mapped_has}
use Rattle.sqlite_value.specs.declared.value.Value.TheVariants.{Text as TextCell}
use Rattle.sqlite_value.specs.Order.{Row, column, value_cmp}
use Rattle.sqlite_value.proofs.OrderLemmas.{value_cmp-Text}
use Rattle.store_sql_rows.specs.Looking.{Finds, FindsLeast, is_from_text}
use Rattle.points.specs.Texts.{Text}
use Rattle.store_sql_rows.specs.Cells.{entry_in, is_text}
use Rattle.store_sql_rows.specs.Rows.{imported_said, of_entry}
use Rattle.store_sql_rows.specs.Stored.{Kept, tables_in}
use Rattle.store_sql_rows.specs.Broken.{cannot_stand_in}
use Rattle.store_sql_rows.proofs.BrokenLemmas.{all_said_here, unsaid_here}
use Rattle.store.specs.Asked.Asked.{EntriesOf}
use Rattle.store.specs.Listed.{AreEntries, AreTexts}
use Rattle.store_sql_rows.proofs.ReadCellLemmas.{entry-cell}
use Rattle.store_sql_rows.proofs.StoredLemmas.{here_imported, not_imported}
use Rattle.store_sql.specs.Texts.{HasEntry, IsBefore, IsEntryAt, IsImported, IsNextText}
use Rattle.store_sql.proofs.ReadCells.{name_here, text_here}
use Rattle.store_sql.proofs.FoundLemmas.{found_origin, found_shown}
use Rattle.store_sql.proofs.NumberLemmas.{passes_nothing}
use Rattle.store_sql.proofs.TextLemmas.{from_ge, ge_from, not_lt}

-- no row passes, or one does
pub some_passes : (test : Row → Bool) (rows : List Row) → (filter test rows ≡ []) ⊎ ((row : Row) × Has rows row × (test row ≡ true))
some_passes test rows = of (filter test rows) refl where
  of : (picked : List Row) → filter test rows ≡ picked → (filter test rows ≡ []) ⊎ ((row : Row) × Has rows row × (test row ≡ true))
  of [] is = inl is
  of (row ∷ more) is = let had = has_filtered test rows row (subst (λ l. Has l row) (sym is) (inl refl)) in inr (row, had.0, had.1)

-- an entry that is imported has a row
pub imported_row : (kept : Kept) (calendar text : Text) → IsImported (tables_in kept) calendar text
    → (row : Row) × Has kept.imported row × (is_text calendar (column row 1) ≡ true) × (column row 2 ≡ TextCell text)
imported_row kept calendar text is = elim (some_passes (of_entry calendar text) kept.imported) [
  | inl none ↦ absurd (true≢false (sym is ∙ not_imported calendar text kept none))
  | inr found ↦
      let both = and_parts (is_text calendar (column found.0 1)) (is_text text (column found.0 2)) found.2 in
      (found.0, found.1, both.0, text_here text (column found.0 2) both.1)
]

abbrev pub is_next : Text → Text → Row → Bool
is_next calendar from row = is_text calendar (column row 1) && is_from_text from (column row 2)

picked_next : (calendar from text : Text) (row : Row) → is_text calendar (column row 1) ≡ true → column row 2 ≡ TextCell text
    → (IsBefore text from → ⊥) → is_next calendar from row ≡ true
picked_next calendar from text row name cell past = and_from _ _ name (ap (is_from_text from) cell ∙ from_ge text from past)

-- an entry that is imported has a row
pub imported_has : (kept : Kept) (calendar text : Text) → IsImported (tables_in kept) calendar text → HasEntry kept calendar text
imported_has = imported_row

module _ (calendar from : Text) (kept : Kept) (answer : List Row) (named : IsName calendar)
    (found : FindsLeast (is_next calendar from) 2 kept.imported answer) where
  pub entry_none : answer ≡ [] → IsNextText (HasEntry kept calendar) from None
  entry_none none text has past =
      passes_nothing (is_next calendar from) kept.imported has.0 (found.none none) has.1
      (picked_next calendar from text has.0 has.2 has.3 past)

  pub entry_some : (shown : Row) (more : List Row) (entry : Entry) → answer ≡ shown ∷ more → entry_in (column shown 0) ≡ Some entry
      → IsEntryAt kept calendar from entry
  entry_some shown more entry is reads =
      let it = found.some shown more is in
      let both = and_parts (is_text calendar (column it.0 1)) (is_from_text from (column it.0 2)) it.2 in
      let cell : column shown 0 ≡ column it.0 2 = ap (λ r. column r 0) it.3 in
      let reported : entry_in (column it.0 2) ≡ Some entry = ap entry_in (sym cell) ∙ reads in
      let text : column it.0 2 ≡ TextCell (spelling entry) = entry-cell (column it.0 2) entry reported in
      record {
        at = record {
          past = ge_from (spelling entry) from (ap (is_from_text from) (sym text) ∙ both.1);
          least = λ other has past before.
              let lowest = it.5 has.0 has.1 (picked_next calendar from other has.0 has.2 has.3 past) in
              not_lt other (spelling entry) (ap is_lt (sym (value_cmp-Text other (spelling entry)))
              ∙ subst (λ v. is_lt (value_cmp v (TextCell (spelling entry))) ≡ false) has.3
              (subst (λ v. is_lt (value_cmp (column has.0 2) v) ≡ false) text lowest)) before;
        };
        here =
            here_imported kept it.0 (record { calendar = calendar; entry = entry }) (contains_had kept.imported it.0 it.1)
            (rw (name_here calendar (column it.0 1) named both.0, reported) refl);
        reads = ap entry_in (sym text) ∙ reported;
      }

  pub entry_bad : (shown : Row) (more : List Row) → answer ≡ shown ∷ more → entry_in (column shown 0) ≡ None
      → cannot_stand_in kept (EntriesOf calendar) ≡ true
  entry_bad shown more is reads =
      let it = found.some shown more is in
      let both = and_parts (is_text calendar (column it.0 1)) (is_from_text from (column it.0 2)) it.2 in
      let cell : column shown 0 ≡ column it.0 2 = ap (λ r. column r 0) it.3 in
      let none : entry_in (column it.0 2) ≡ None = ap entry_in (sym cell) ∙ reads in
      let silent : imported_said it.0 ≡ None = rw (name_here calendar (column it.0 1) named both.0, none) refl in
      unsaid_here imported_said (λ row. is_text calendar (column row 1)) kept.imported it.0 it.1 both.0 silent

-- ---- the entries of a calendar

-- the entry that a row of the answer spells
abbrev pub entry_shown : Row → Option Entry
entry_shown row = entry_in (column row 0)

-- each row spells an entry, and these are the entries
abbrev pub AreSpelled : List Row → List Entry → Type 0
AreSpelled rows entries = map entry_shown rows ≡ map Some entries

pub spelled_more : (rows : List Row) (i : ℕ) (row : Row) (entries : List Entry) (entry : Entry) → i < length rows
    → row ≡ get_or rows i row → AreSpelled (take i rows) entries → entry_in (column row 0) ≡ Some entry
    → AreSpelled (take (i + 1) rows) (entries ++ entry ∷ [])
spelled_more rows i row entries entry below here spelled reads =
    let shown : entry_shown (get_or rows i row) ≡ Some entry = ap entry_shown (sym here) ∙ reads in
    map_more entry_shown rows i row below ∙ (λ j. spelled j ++ shown j ∷ []) ∙ sym (map-append Some entries (entry ∷ []))

-- the texts of a list, of which a test tells whether it has them
pub texts_among : (texts : List Text) (among : Text → Bool) → ((text : Text) → among text ≡ list_any (bytes_eq text) texts)
    → (ordered : List Text) → AreTexts (λ text. IsTrue (among text)) ordered → AreTexts (Contains texts) ordered
texts_among texts among tells ordered are = record {
  rise = are.rise;
  each = λ text. (
    (λ here. Contains-from_any (λ x y same. (bytes_eq-Decides x y).0 same) text texts (sym (tells text) ∙ (are.each text).0 here)),
    (λ has. (are.each text).1 (tells text ∙ list_any-from_Contains nat_list_eq_equiv text texts has)),
  );
}

module _ (calendar : Text) (kept : Kept) (answer : List Row) (named : IsName calendar)
    (found : Finds (λ row. is_text calendar (column row 1)) (λ row. column row 2 ∷ []) kept.imported answer) where
  pub entries_bad : (row : Row) → Has answer row → entry_in (column row 0) ≡ None → cannot_stand_in kept (EntriesOf calendar) ≡ true
  entries_bad row had unread =
      let it = found_origin _ _ kept.imported answer row found had in
      let none : entry_in (column it.0 2) ≡ None = ap entry_shown (sym it.3) ∙ unread in
      let silent : imported_said it.0 ≡ None = rw (name_here calendar (column it.0 1) named it.2, none) refl in
      unsaid_here imported_said (λ row. is_text calendar (column row 1)) kept.imported it.0 it.1 it.2 silent

  module _ (entries : List Entry) (spelled : AreSpelled answer entries) where
    -- an entry of the list stands in a row of the calendar
    imported_here : (entry : Entry) → Has entries entry → IsImported (tables_in kept) calendar (spelling entry)
    imported_here entry here =
        let row =
        has_mapped entry_shown answer (Some entry) (subst (λ l. Has l (Some entry)) (sym spelled) (mapped_has Some entries entry here)) in
        let it = found_origin _ _ kept.imported answer row.0 found row.1 in
        let reads : entry_in (column it.0 2) ≡ Some entry = sym (row.2 ∙ ap entry_shown it.3) in
        here_imported kept it.0 (record { calendar = calendar; entry = entry }) (contains_had kept.imported it.0 it.1)
        (rw (name_here calendar (column it.0 1) named it.2, reads) refl)

    -- a row of the calendar spells an entry of the list
    entry_of_row : (row : Row) → Has kept.imported row → is_text calendar (column row 1) ≡ true
        → (entry : Entry) × Has entries entry × (entry_in (column row 2) ≡ Some entry)
    entry_of_row row here of =
        let shown = found_shown _ _ kept.imported answer row found here of in
        has_mapped Some entries (entry_in (column row 2))
        (subst (λ l. Has l (entry_in (column row 2))) spelled (mapped_has entry_shown answer (column row 2 ∷ []) shown))

    listed : (text : Text) → IsImported (tables_in kept) calendar text → Has (map spelling entries) text
    listed text is =
        let row = imported_row kept calendar text is in
        let entry = entry_of_row row.0 row.1 row.2 in
        let cell : TextCell text ≡ TextCell (spelling entry.0) = sym row.3 ∙ entry-cell (column row.0 2) entry.0 entry.2 in
        let same : spelling entry.0 ≡ text = cc in
        subst (Has (map spelling entries)) same (mapped_has spelling entries entry.0 entry.1)

    -- the entries of the list are those of the calendar
    pub entries_all : (ordered : List Entry) → AreTexts (Contains (map spelling entries)) (map spelling ordered)
        → AreEntries (tables_in kept) calendar ordered
    entries_all ordered are = record {
      rise = are.rise;
      each = λ text. (
        (λ here. let entry =
            has_mapped spelling entries text (has_contained (map spelling entries) text ((are.each text).0 here)) in
            subst (IsImported (tables_in kept) calendar) (sym entry.2) (imported_here entry.0 entry.1)),
        (λ is. (are.each text).1 (contains_had (map spelling entries) text (listed text is))),
      );
    }

    pub entries_stand : cannot_stand_in kept (EntriesOf calendar) ≡ false
    entries_stand =
        all_said_here imported_said (λ row. is_text calendar (column row 1)) kept.imported (λ row here of.
        let entry = entry_of_row row here of in rw (name_here calendar (column row 1) named of, entry.2) refl)
