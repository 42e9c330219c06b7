-- A database of the six tables.
use Rattle.std.specs.Prelude.{◌≡◌, ℕ, zero, suc, ℤ, Bool, true, false, not, ◌&&◌, filter, IsTrue, List, [], ◌∷◌, ◌++◌, map}
use Rattle.std.specs.List.Sorted.{IsPermutation}
use Rattle.std.specs.Ordering.{is_ge, is_le}
use Rattle.sqlite_value.specs.declared.value.Value.{Value}
use Rattle.sqlite_value.specs.declared.value.Value.TheVariants.{Int}
use Rattle.sqlite_rules.specs.Edit.{is_taken}
use Rattle.sqlite_rules.specs.Lists.{Has}
use Rattle.sqlite_trees.specs.Tree.{Trees, has_rowid, rowid}
use Rattle.sqlite_trees.specs.View.{is_int}
use Rattle.sqlite_value.specs.Order.{Row, column, value_cmp}
use Rattle.sqlite.specs.Effect.{Database, IsDatabase}
use Rattle.sqlite.specs.State.{Shows, State}
use Rattle.store_sql_rows.specs.Schema.{command_tree, desk_schema, desk_tree, imported_tree, panel_tree, place_tree, shown_tree}
use Rattle.store.specs.Standing.{Content}
use Rattle.store.specs.Tables.{Tables}
use Rattle.store_sql_rows.specs.Broken.{Keeps}
use Rattle.store_sql_rows.specs.Stored.{HasPut, Kept, content_in, is_sound_in, tables_in}

-- the rows of the six tables
abbrev pub kept_in : Trees → Kept
kept_in db =
    record {
      desk = db desk_tree;
      panel = db panel_tree;
      command = db command_tree;
      place = db place_tree;
      shown = db shown_tree;
      imported = db imported_tree;
    }

abbrev pub content_of : Trees → Content
content_of db = content_in (kept_in db)

-- the rows are numbered, and two that share a number share these columns
pub record AreOwn (key : List ℕ) (rows : List Row) : Type 0 where
  pub numbered : (row : Row) → Has rows row → IsTrue (is_int (rowid row))
  pub apart : (a b : Row) → Has rows a → Has rows b → rowid a ≡ rowid b → map (column a) key ≡ map (column b) key

-- there is one row, and it is numbered
pub record IsOne (rows : List Row) : Type 0 where
  pub row : Row
  pub is : rows ≡ row ∷ []
  pub numbered : IsTrue (is_int (rowid row))

-- the rows of the six tables, as a store writes them
pub record AreOurs (kept : Kept) : Type 0 where
  pub desk : IsOne kept.desk
  pub panel : AreOwn (1 ∷ []) kept.panel
  pub command : AreOwn (1 ∷ 2 ∷ []) kept.command
  pub place : AreOwn (1 ∷ 2 ∷ []) kept.place
  pub shown : AreOwn (1 ∷ []) kept.shown
  pub imported : AreOwn (1 ∷ 2 ∷ []) kept.imported

-- a database with the schema of the six tables, which obeys it
pub record IsOurs (db : Database) : Type 0 where
  pub schema_is : db.schema ≡ desk_schema
  pub sound : IsDatabase db
  pub rows : AreOurs (kept_in db.trees)

-- in a transaction over the six tables
pub record IsInside (s : State) : Type 0 where
  pub in_transaction : IsTrue s.in_transaction
  pub ours : IsOurs s.now

-- The rows of the six tables were changed in the transaction, and are ours as before.
pub record Changes (Change : Kept → Kept → Type 0) (old new : State) : Type 0 where
  pub seen : Shows old new new.now old.committed true
  pub ours : IsOurs new.now
  pub change : Change (kept_in old.now.trees) (kept_in new.now.trees)

-- the tables are another function of themselves, and stay sound; what could stand can stand still
pub record Makes (f : Tables → Tables) (old new : Kept) : Type 0 where
  pub tables : tables_in new ≡ f (tables_in old)
  pub is_sound : is_sound_in old ≡ true → is_sound_in new ≡ true
  pub stands : Keeps old new

-- there is one more row
pub record HasOneMore (row : Row) (old now : List Row) : Type 0 where
  pub before : List Row
  pub after : List Row
  pub was : old ≡ before ++ after
  pub is : now ≡ before ++ row ∷ after

-- the rows that pass are gone
abbrev pub Loses : (Row → Bool) → List Row → List Row → Type 0
Loses gone old now = now ≡ filter (λ row. not (gone row)) old

-- there is one more row, with these cells, under a number that none had
pub record Gains (cells : Row) (old now : List Row) : Type 0 where
  pub id : Value
  pub free : is_taken old (id ∷ cells) ≡ false
  pub more : HasOneMore (id ∷ cells) old now

-- no row passed, and there is one more, with these cells
abbrev pub Adds : (Row → Bool) → Row → List Row → List Row → Type 0
Adds gone cells old now = Loses gone old old × Gains cells old now

-- so many rows passed: where none did, the rows are as they were; else those that passed are gone, and there is one row with these cells
abbrev pub Rewrites : (Row → Bool) → Row → ℕ → List Row → List Row → Type 0
Rewrites gone cells zero old now = Loses gone old old × (now ≡ old)
Rewrites gone cells (suc more) old now = (id : Value) × HasPut (id ∷ cells) gone old now

-- the row of a number, where it passes
abbrev pub at_number : ℤ → (Row → Bool) → Row → Bool
at_number number gone row = has_rowid number row && gone row

-- so many rows of a number passed: where none did, the rows are as they were; else such a row stood, and as of `Rewrites`
abbrev pub RewritesAt : ℤ → (Row → Bool) → Row → ℕ → List Row → List Row → Type 0
RewritesAt number gone cells zero old now = Rewrites (at_number number gone) cells zero old now
RewritesAt number gone cells (suc more) old now =
    (row : Row) × Has old row × (at_number number gone row ≡ true) × Rewrites gone cells (suc more) old now

-- the number of the row lies between two
abbrev pub is_between : ℤ → ℤ → Row → Bool
is_between first last row = is_ge (value_cmp (rowid row) (Int first)) && is_le (value_cmp (rowid row) (Int last))

-- there are these rows more, each under a number that none had
abbrev pub GainsAll : List Row → List Row → List Row → Type 0
GainsAll [] old now = now ≡ old
GainsAll (row ∷ rows) old now = (mid : List Row) × (is_taken old row ≡ false) × HasOneMore row old mid × GainsAll rows mid now

-- the rows that pass are gone, and of each there is one that is made of it
pub record Remakes (pick : Row → Bool) (make : Row → Row) (old now : List Row) : Type 0 where
  pub made : List Row
  pub are : IsPermutation (map make (filter pick old)) made
  pub gained : GainsAll made (filter (λ row. not (pick row)) old) now

-- so many rows passed: where none did, the rows are as they were; else those that passed are gone, and to those that are
-- left, of which none is of the key, one row with these cells is added
abbrev pub Exchanges : (Row → Bool) → (Row → Bool) → Row → ℕ → List Row → List Row → Type 0
Exchanges gone key cells zero old now = Loses gone old old × (now ≡ old)
Exchanges gone key cells (suc more) old now = (left : List Row) × Loses gone old left × Adds key cells left now

-- the row of `desk` is another one, with this as its last cell
pub record SetsDesk (last : Row → Value) (old new : Kept) : Type 0 where
  pub was : Row
  pub row : Row
  pub had : old.desk ≡ was ∷ []
  pub others : new ≡ record old { desk = row ∷ [] }
  pub last_is : column row 3 ≡ last was
