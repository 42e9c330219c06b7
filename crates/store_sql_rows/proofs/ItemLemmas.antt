-- What a statement or two make of the tables.
use Rattle.std.proofs.Common.{◌≡◌, ◌≢◌, ℕ, zero, suc, Bool, true, pos, ℤ, List, [], ◌∷◌, Option, Some, None, refl, sym, ap, subst, ◌∙◌}
use Rattle.dates.specs.Entry.{IsEntry, spelling}
use Rattle.points.specs.Name.{IsName}
use Rattle.sqlite_value.specs.declared.value.Value.{Value}
use Rattle.sqlite_value.specs.declared.value.Value.TheVariants.{Int, Text}
use Rattle.sqlite_value.specs.Order.{Row}
use Rattle.store.specs.declared.change.ImportedEntry.{ImportedEntry}
use Rattle.store.specs.declared.change.KeptRow.{KeptRow}
use Rattle.store.specs.declared.change.NextNumber.{NextNumber}
use Rattle.store.specs.declared.change.PlaceValue.{PlaceValue}
use Rattle.store.specs.declared.change.RowsBelow.{RowsBelow}
use Rattle.store.specs.declared.change.ShownValue.{ShownValue}
use Rattle.store.specs.Change.{IsKeptRow, IsNext, IsPlace}
use Rattle.store.specs.Tables.{Tables}
use Rattle.store_sql_rows.specs.Broken.{Keeps}
use Rattle.store_sql_rows.specs.Cells.{cell_of, optional_in}
use Rattle.store_sql_rows.specs.Rows.{of_command, of_entry, of_lower_command, of_panel, of_place, of_schedule, state_in}
use Rattle.store_sql_rows.specs.Stored.{HasPut, Kept, is_sound_in, tables_in}
use Rattle.store_sql_rows.proofs.MadeLemmas.{made_cells, made_command, made_content, made_imported, made_next, made_place, made_shown}
use Rattle.store_sql_rows.proofs.StoredLemmas.{clear_place, clear_shown, drop_commands, put_command, put_imported, put_next, put_place, put_shown, set_last}
use Rattle.store_sql_rows.specs.Ours.{Adds, Exchanges, Gains, Loses, Makes, Rewrites, RewritesAt, SetsDesk}
use Rattle.store_sql_rows.specs.Slot.{On, Slot, command_slot, imported_slot, panel_slot, place_slot, shown_slot}
use Rattle.store_sql_rows.specs.Steps.{imported_put, last_put, next_put, place_put, row_put, rows_dropped, shown_put}
use Rattle.store_sql_rows.proofs.DropLemmas.{drops_itself, drops_the_same}

-- the rows of a key are gone, and one with these cells is there
record Put (slot : Slot) (gone : Row → Bool) (cells : Row) (old new : Kept) : Type 0 where
  id : Value
  has : HasPut (id ∷ cells) gone (slot.get old) (slot.get new)
  is : new ≡ slot.set (slot.get new) old

put_on : (slot : Slot) → ((x y : List Row) (k : Kept) → slot.set x (slot.set y k) ≡ slot.set x k)
    → (gone : Row → Bool) (cells : Row) (a b c : Kept)
    → On slot (Loses gone) a b → On slot (Gains cells) b c → Put slot gone cells a c
put_on slot law gone cells a b c lost gains =
    let more = gains.rows.more in
    record {
      id = gains.rows.id;
      has = record { before = more.before; after = more.after; left = sym lost.rows ∙ more.was; is = more.is };
      is = gains.others ∙ ap (slot.set (slot.get c)) lost.others ∙ law (slot.get c) (slot.get b) a;
    }

-- where a row of the key stood, an UPDATE puts one with these cells
put_in : (slot : Slot) (gone : Row → Bool) (cells : Row) (count : ℕ) (a b : Kept) → count ≢ 0 → On slot (Rewrites gone cells count) a b
    → Put slot gone cells a b
put_in slot gone cells zero a b some set = absurd (some refl)
put_in slot gone cells (suc more) a b some set = record { id = set.rows.0; has = set.rows.1; is = set.others }

-- where none stood, it does what the removal of none does
none_lost : (slot : Slot) (gone : Row → Bool) (cells : Row) (count : ℕ) (a b : Kept) → count ≡ 0 → On slot (Rewrites gone cells count) a b
    → On slot (Loses gone) a b
none_lost slot gone cells count a b none set =
    let rows = subst (λ n. Rewrites gone cells n (slot.get a) (slot.get b)) none set.rows in
    record { others = set.others; rows = rows.1 ∙ rows.0 }

-- the tables of the rows that are
makes_from : (f : Tables → Tables) (a b c : Kept) → c ≡ b → (tables_in b ≡ f (tables_in a)) × (is_sound_in a ≡ true → is_sound_in b ≡ true) × Keeps a b
    → Makes f a c
makes_from f a b c is both = subst (Makes f a) (sym is) (record { tables = both.0; is_sound = both.1; stands = both.2 })

-- the same where it was found by its number
found : (slot : Slot) (number : ℤ) (gone : Row → Bool) (cells : Row) (count : ℕ) (a b : Kept) → count ≢ 0
    → On slot (RewritesAt number gone cells count) a b → On slot (Rewrites gone cells count) a b
found slot number gone cells zero a b some set = absurd (some refl)
found slot number gone cells (suc more) a b some set = record { others = set.others; rows = set.rows.3 }

-- where none was found, all is as it was
missed : (slot : Slot) → ((k : Kept) → slot.set (slot.get k) k ≡ k) → (number : ℤ) (gone : Row → Bool) (cells : Row) (count : ℕ) (a b : Kept)
    → count ≡ 0 → On slot (RewritesAt number gone cells count) a b → Makes (λ tables. tables) a b
missed slot law number gone cells count a b none set =
    let rows = subst (λ n. RewritesAt number gone cells n (slot.get a) (slot.get b)) none set.rows in
    makes_from (λ tables. tables) a a b (set.others ∙ ap (λ l. slot.set l a) rows.1 ∙ law a) (refl, λ sound. sound, λ asked stood. stood)

-- the items that an UPDATE put, or else an INSERT
module _ (item : NextNumber) (named : IsName item.panel) (in' : IsNext item) where
  abbrev next_cells : Row
  next_cells = Text item.panel ∷ Int (pos item.next) ∷ []

  next_from : (a b : Kept) → Put panel_slot (of_panel item.panel) next_cells a b → Makes (next_put item) a b
  next_from a b put =
      makes_from (next_put item) a (record a { panel = b.panel }) b put.is
      (put_next item (put.id ∷ next_cells) a b.panel (made_next item (put.id ∷ next_cells) refl refl named in') put.has)

  pub next_set : (count : ℕ) → count ≢ 0 → (a b : Kept) → On panel_slot (Rewrites (of_panel item.panel) next_cells count) a b
      → Makes (next_put item) a b
  next_set count some a b set = next_from a b (put_in panel_slot (of_panel item.panel) next_cells count a b some set)

  pub next_added : (count : ℕ) → count ≡ 0 → (a b c : Kept) → On panel_slot (Rewrites (of_panel item.panel) next_cells count) a b
      → On panel_slot (Adds (of_panel item.panel) next_cells) b c → Makes (next_put item) a c
  next_added count none a b c set added =
      next_from a c (put_on panel_slot (λ x y k. refl) (of_panel item.panel) next_cells a b c
      (none_lost panel_slot (of_panel item.panel) next_cells count a b none set) (record { others = added.others; rows = added.rows.1 }))

  -- one that is new
  pub next_new : (a b : Kept) → On panel_slot (Adds (of_panel item.panel) next_cells) a b → Makes (next_put item) a b
  next_new a b added =
      next_from a b (put_on panel_slot (λ x y k. refl) (of_panel item.panel) next_cells a a b (record { others = refl; rows = added.rows.0 })
      (record { others = added.others; rows = added.rows.1 }))

  -- by the number of its row
  pub next_found : (number : ℤ) (count : ℕ) → count ≢ 0 → (a b : Kept) → On panel_slot (RewritesAt number (of_panel item.panel) next_cells count) a b
      → Makes (next_put item) a b
  next_found number count some a b set = next_set count some a b (found panel_slot number (of_panel item.panel) next_cells count a b some set)

module _ (item : PlaceValue) (value : ℤ) (some_value : item.value ≡ Some value) (named : IsName item.point) (in' : IsPlace item) where
  abbrev place_cells : Row
  place_cells = Text item.point ∷ Int (pos item.priority) ∷ Int value ∷ []

  abbrev place_gone : Row → Bool
  place_gone = of_place item.point item.priority

  place_from : (a b : Kept) → Put place_slot place_gone place_cells a b → Makes (place_put item) a b
  place_from a b put =
      makes_from (place_put item) a (record a { place = b.place }) b put.is
      (put_place item (put.id ∷ place_cells) a b.place
      (made_place item value (put.id ∷ place_cells) some_value refl refl refl named in') put.has)

  pub place_set : (count : ℕ) → count ≢ 0 → (a b : Kept) → On place_slot (Rewrites place_gone place_cells count) a b
      → Makes (place_put item) a b
  place_set count some a b set = place_from a b (put_in place_slot place_gone place_cells count a b some set)

  pub place_added : (count : ℕ) → count ≡ 0 → (a b c : Kept) → On place_slot (Rewrites place_gone place_cells count) a b
      → On place_slot (Adds place_gone place_cells) b c → Makes (place_put item) a c
  place_added count none a b c set added =
      place_from a c (put_on place_slot (λ x y k. refl) place_gone place_cells a b c
      (none_lost place_slot place_gone place_cells count a b none set) (record { others = added.others; rows = added.rows.1 }))

  -- one that is new
  pub place_new : (a b : Kept) → On place_slot (Adds place_gone place_cells) a b → Makes (place_put item) a b
  place_new a b added =
      place_from a b (put_on place_slot (λ x y k. refl) place_gone place_cells a a b (record { others = refl; rows = added.rows.0 })
      (record { others = added.others; rows = added.rows.1 }))

  -- by the number of its row
  pub place_found : (number : ℤ) (count : ℕ) → count ≢ 0 → (a b : Kept) → On place_slot (RewritesAt number place_gone place_cells count) a b
      → Makes (place_put item) a b
  place_found number count some a b set = place_set count some a b (found place_slot number place_gone place_cells count a b some set)

module _ (a b : Kept) where
  pub rows_lost : (item : RowsBelow) (number : ℕ) → drops_the_same item number
      → On command_slot (Loses (of_lower_command item.panel number)) a b → Makes (rows_dropped item) a b
  rows_lost item number same lost =
      let other : RowsBelow = record { panel = item.panel; number = number } in
      let both = drop_commands other a b.command lost.rows in
      makes_from (rows_dropped item) a (record a { command = b.command }) b lost.others
      (both.0 ∙ (λ i. record (tables_in a) { row = same a i }), both.1, both.2)

module _ (item : KeptRow) (code : ℤ) (first second : Option ℤ) (named : IsName item.panel) (point : IsName item.row.content.point)
    (in' : IsKeptRow item)
    (says : state_in (Int code) (cell_of first) (cell_of second) ≡ Some item.row.state) where
  abbrev row_gone : Row → Bool
  row_gone = of_command item.panel item.number

  abbrev row_cells : Row
  row_cells =
      Text item.panel ∷ Int (pos item.number) ∷ Text item.row.content.point ∷ Int item.row.content.priority
      ∷ cell_of item.row.content.value ∷ Int code ∷ cell_of first ∷ cell_of second ∷ []

  row_from : (a b : Kept) → Put command_slot row_gone row_cells a b → Makes (row_put item) a b
  row_from a b put =
      let content = item.row.content in
      let asks = made_content content (Text content.point) (Int content.priority) (cell_of content.value) refl refl refl point in
      let kept =
      made_cells item.row (Text content.point) (Int content.priority) (cell_of content.value) (Int code) (cell_of first)
      (cell_of second) asks says in
      makes_from (row_put item) a (record a { command = b.command }) b put.is
      (put_command item (put.id ∷ row_cells) a b.command (made_command item (put.id ∷ row_cells) refl refl named in'.number kept) put.has)

  -- one that is new
  pub row_added : (a b : Kept) → On command_slot (Adds row_gone row_cells) a b → Makes (row_put item) a b
  row_added a b added =
      row_from a b (put_on command_slot (λ x y k. refl) row_gone row_cells a a b (record { others = refl; rows = added.rows.0 })
      (record { others = added.others; rows = added.rows.1 }))

  -- one in place of another
  pub row_made : (a b c : Kept) → On command_slot (Loses row_gone) a b → On command_slot (Adds row_gone row_cells) b c
      → Makes (row_put item) a c
  row_made a b c lost added =
      row_from a c (put_on command_slot (λ x y k. refl) row_gone row_cells a b c lost
      (record { others = added.others; rows = added.rows.1 }))

  -- one that a row below a number became
  module _ (below : ℕ) where
    abbrev lower : RowsBelow
    lower = record { panel = item.panel; number = below }

    pub row_exchanged : (count : ℕ) → count ≢ 0 → (a b : Kept)
        → On command_slot (Exchanges (of_lower_command item.panel below) row_gone row_cells count) a b
        → Makes (λ tables. row_put item (rows_dropped lower tables)) a b
    row_exchanged zero some a b set = absurd (some refl)
    row_exchanged (suc more) some a b set =
        let left : Kept = record a { command = set.rows.0 } in
        let dropped = rows_lost a left lower below (drops_itself lower) (record { others = refl; rows = set.rows.1 }) in
        let added = row_added left b (record { others = set.others; rows = set.rows.2 }) in
        record {
          tables = added.tables ∙ ap (row_put item) dropped.tables;
          is_sound = λ sound. added.is_sound (dropped.is_sound sound);
          stands = λ asked stood. added.stands asked (dropped.stands asked stood);
        }

    -- where there was none below it, that none is dropped is all that was done
    pub none_exchanged : (count : ℕ) → count ≡ 0 → (a b : Kept)
        → On command_slot (Exchanges (of_lower_command item.panel below) row_gone row_cells count) a b
        → Makes (rows_dropped lower) a b
    none_exchanged count none a b set =
        let rows = subst (λ n. Exchanges (of_lower_command item.panel below) row_gone row_cells n a.command b.command) none set.rows in
        rows_lost a b lower below (drops_itself lower) (record { others = set.others; rows = rows.1 ∙ rows.0 })

module _ (item : ShownValue) (value : Option ℤ) (some_value : item.shown ≡ Some value) (named : IsName item.schedule) where
  abbrev shown_gone : Row → Bool
  shown_gone = of_schedule item.schedule

  abbrev shown_cells : Row
  shown_cells = Text item.schedule ∷ cell_of value ∷ []

  shown_from : (a b : Kept) → Put shown_slot shown_gone shown_cells a b → Makes (shown_put item) a b
  shown_from a b put =
      makes_from (shown_put item) a (record a { shown = b.shown }) b put.is
      (put_shown item (put.id ∷ shown_cells) a b.shown (made_shown item value (put.id ∷ shown_cells) some_value refl refl named) put.has)

  pub shown_set : (count : ℕ) → count ≢ 0 → (a b : Kept) → On shown_slot (Rewrites shown_gone shown_cells count) a b
      → Makes (shown_put item) a b
  shown_set count some a b set = shown_from a b (put_in shown_slot shown_gone shown_cells count a b some set)

  pub shown_added : (count : ℕ) → count ≡ 0 → (a b c : Kept) → On shown_slot (Rewrites shown_gone shown_cells count) a b
      → On shown_slot (Adds shown_gone shown_cells) b c → Makes (shown_put item) a c
  shown_added count none a b c set added =
      shown_from a c (put_on shown_slot (λ x y k. refl) shown_gone shown_cells a b c
      (none_lost shown_slot shown_gone shown_cells count a b none set) (record { others = added.others; rows = added.rows.1 }))

  -- one that is new
  pub shown_new : (a b : Kept) → On shown_slot (Adds shown_gone shown_cells) a b → Makes (shown_put item) a b
  shown_new a b added =
      shown_from a b (put_on shown_slot (λ x y k. refl) shown_gone shown_cells a a b (record { others = refl; rows = added.rows.0 })
      (record { others = added.others; rows = added.rows.1 }))

  -- by the number of its row
  pub shown_found : (number : ℤ) (count : ℕ) → count ≢ 0 → (a b : Kept) → On shown_slot (RewritesAt number shown_gone shown_cells count) a b
      → Makes (shown_put item) a b
  shown_found number count some a b set = shown_set count some a b (found shown_slot number shown_gone shown_cells count a b some set)

module _ (item : ImportedEntry) (text : List ℕ) (is : text ≡ spelling item.entry) (named : IsName item.calendar) (in' : IsEntry item.entry)
  where
    abbrev imported_gone : Row → Bool
    imported_gone = of_entry item.calendar text

    abbrev imported_cells : Row
    imported_cells = Text item.calendar ∷ Text text ∷ []

    imported_from : (a b : Kept) → Put imported_slot imported_gone imported_cells a b → Makes (imported_put item) a b
    imported_from a b put =
        let has = subst (λ t. HasPut (put.id ∷ imported_cells) (of_entry item.calendar t) a.imported b.imported) is put.has in
        makes_from (imported_put item) a (record a { imported = b.imported }) b put.is
        (put_imported item (put.id ∷ imported_cells) a b.imported
        (made_imported item (put.id ∷ imported_cells) refl (ap Text is) named in') has)

    -- one that is new
    pub imported_added : (a b : Kept) → On imported_slot (Adds imported_gone imported_cells) a b → Makes (imported_put item) a b
    imported_added a b added =
        imported_from a b (put_on imported_slot (λ x y k. refl) imported_gone imported_cells a a b
        (record { others = refl; rows = added.rows.0 }) (record { others = added.others; rows = added.rows.1 }))

    -- one in place of another
    pub imported_made : (a b c : Kept) → On imported_slot (Loses imported_gone) a b → On imported_slot (Adds imported_gone imported_cells) b c
        → Makes (imported_put item) a c
    imported_made a b c lost added =
        imported_from a c (put_on imported_slot (λ x y k. refl) imported_gone imported_cells a b c lost
        (record { others = added.others; rows = added.rows.1 }))

-- an UPDATE by a number that no row of the key has
pub next_missed : (number : ℤ) (gone : Row → Bool) (cells : Row) (count : ℕ) → count ≡ 0 → (a b : Kept)
    → On panel_slot (RewritesAt number gone cells count) a b → Makes (λ tables. tables) a b
next_missed number gone cells count none a b = missed panel_slot (λ k. refl) number gone cells count a b none

pub place_missed : (number : ℤ) (gone : Row → Bool) (cells : Row) (count : ℕ) → count ≡ 0 → (a b : Kept)
    → On place_slot (RewritesAt number gone cells count) a b → Makes (λ tables. tables) a b
place_missed number gone cells count none a b = missed place_slot (λ k. refl) number gone cells count a b none

pub shown_missed : (number : ℤ) (gone : Row → Bool) (cells : Row) (count : ℕ) → count ≡ 0 → (a b : Kept)
    → On shown_slot (RewritesAt number gone cells count) a b → Makes (λ tables. tables) a b
shown_missed number gone cells count none a b = missed shown_slot (λ k. refl) number gone cells count a b none

module _ (a b : Kept) where
  pub place_cleared : (item : PlaceValue) → item.value ≡ None → On place_slot (Loses (of_place item.point item.priority)) a b
      → Makes (place_put item) a b
  place_cleared item quiet lost =
      makes_from (place_put item) a (record a { place = b.place }) b lost.others (clear_place item a b.place quiet lost.rows)

  pub shown_cleared : (item : ShownValue) → item.shown ≡ None → On shown_slot (Loses (of_schedule item.schedule)) a b
      → Makes (shown_put item) a b
  shown_cleared item quiet lost =
      makes_from (shown_put item) a (record a { shown = b.shown }) b lost.others (clear_shown item a b.shown quiet lost.rows)

  pub last_set : (moment : ℤ) → SetsDesk (λ row. Int moment) a b → Makes (last_put (Some moment)) a b
  last_set moment sets =
      makes_from (last_put (Some moment)) a (record a { desk = sets.row ∷ [] }) b sets.others
      (set_last moment sets.was sets.row a sets.had (ap optional_in sets.last_is))
