-- What a statement that only reads leaves, and what its answer is.
use Rattle.std.specs.Prelude.{◌≡◌, ◌≤◌, ◌<◌, ◌+◌, ◌-◌, ◌++◌, ◌⊎◌, ℕ, pos, Bool, true, false, nat_lt, not, Ok, Err, IfErr, IfOk, IsTrue, List, [], ◌∷◌, OnOk, Result, filter, map}
use Rattle.std.specs.Cmp.Lexicographic.{slice_cmp}
use Rattle.std.specs.List.Sorted.{IsPermutation}
use Rattle.std.specs.Ordering.{is_ge, is_lt, nat_cmp}
use Rattle.sqlite_rules.specs.Lists.{Has}
use Rattle.sqlite_value.specs.declared.value.Value.{Value}
use Rattle.sqlite_value.specs.declared.value.Value.TheVariants.{Int, Text}
use Rattle.sqlite_value.specs.Order.{Row, column, value_cmp}
use Rattle.sqlite.specs.declared.error.Error.{Error}
use Rattle.sqlite.specs.Effect.{Database, ReadsFirst, Reads as ReadsAll}
use Rattle.sqlite_resolve.specs.declared.compiled.Compiled.{Compiled}
use Rattle.sqlite_resolve.specs.declared.error.CompileError.{CompileError}
use Rattle.sqlite_schema.specs.declared.command.Command.{Command}
use Rattle.sqlite.specs.Listing.{understood}
use Rattle.sqlite.specs.State.{HasCleanDisk, IsUnchanged, Shows, State, Survives}
use Rattle.store_sql_rows.specs.Failing.{FailsFor}
use Rattle.store_sql_rows.specs.Schema.{desk_schema}
use Rattle.store_sql_rows.specs.Cells.{is_count}
use Rattle.store_sql_rows.specs.Ours.{IsOurs, kept_in}
use Rattle.store_sql_rows.specs.Stored.{Kept}

-- whatever it answered, a connection that is open sees what it saw
pub record Rests (old new : State) : Type 0 where
  pub was_open : IsTrue new.is_open → IsTrue old.is_open
  pub same : old.now ≡ old.committed → IsTrue new.is_open → (new.now ≡ old.now) × (new.committed ≡ old.committed)

-- a query of the six tables changes nothing; whatever it answered, a connection that is open sees what it saw; and it
-- fails for a cause
pub record Leaves {A : Type 0} (old new : State) (outcome : Result A Error) : Type 0 where
  pub mode : old.in_transaction ≡ false → new.in_transaction ≡ false
  pub same : HasCleanDisk new → IsOurs old.now → OnOk outcome (IsUnchanged old new)
  pub rests : HasCleanDisk new → IsOurs old.now → Rests old new
  pub survives : Survives old new (λ _. IsOurs old.now → ⊥)
  pub cause : HasCleanDisk new → IsOurs old.now → IfErr outcome (FailsFor old new)

-- A query of the six tables: what its answer is, by their rows, and that nothing is changed.
pub record Reads {A : Type 0} (Found : Kept → A → Type 0) (old new : State) (outcome : Result A Error) : Type 0 where
  pub leaves : Leaves old new outcome
  pub found : HasCleanDisk new → IsOurs old.now → IfOk outcome (Found (kept_in old.now.trees))

-- the answer shows the rows that are picked, in some order
pub record Finds (pick : Row → Bool) (show : Row → Row) (rows answer : List Row) : Type 0 where
  pub shown : IsPermutation (map show (filter pick rows)) answer

-- nothing was changed, and the rows are such
abbrev pub Stays : (Kept → Type 0) → Kept → Kept → Type 0
Stays Are old now = (now ≡ old) × Are old

-- the answer shows a column of the picked row where it is least, or there is none
pub record FindsLeast (pick : Row → Bool) (at : ℕ) (rows answer : List Row) : Type 0 where
  pub none : answer ≡ [] → filter pick rows ≡ []
  pub some : (shown : Row) (more : List Row) → answer ≡ shown ∷ more
      → (row : Row) × Has rows row × (pick row ≡ true) × (shown ≡ column row at ∷ []) × (more ≡ [])
      × ((other : Row) → Has rows other → pick other ≡ true → is_lt (value_cmp (column other at) (column row at)) ≡ false)

-- Rows from a number on, as far as a run up to another goes: the number is the first cell of each. Those that are left
-- out show greater numbers than `gap`, and those of the answer lesser ones, so that no row shows it.
pub record FindsRun (pick : Row → Bool) (show : Row → Row) (from upto : ℕ) (rows answer : List Row) : Type 0 where
  pub rest : List Row
  pub shown : IsPermutation (map show (filter pick rows)) (answer ++ rest)
  pub gap : ℕ
  pub after : from ≤ gap
  pub reaches : upto ≤ gap
  pub before : (row : Row) → Has answer row → (number : ℕ) → is_count number (column row 0) ≡ true → number < gap
  pub behind : (row : Row) → Has rest row → (number : ℕ) → is_count number (column row 0) ≡ true → gap < number

-- the number in a cell, or 0
abbrev pub number_or_0 : Value → ℕ
number_or_0 (Int (pos n)) = n
number_or_0 _ = 0

-- the number that a row shows first, or 0
abbrev pub number_shown : Row → ℕ
number_shown row = number_or_0 (column row 0)

-- the number that the last row shows, or another where there is none
abbrev pub last_shown : ℕ → List Row → ℕ
last_shown last [] = last
last_shown last (row ∷ rows) = last_shown (number_shown row) rows

-- a row that an answer has behind others is past `upto`, and behind a gap
pub record StopsAt (command : Command) (db : Database) (params : Row) (from upto : ℕ) (run : List Row) : Type 0 where
  pub row : Row
  pub begins : ReadsFirst command db params (run ++ row ∷ [])
  pub past : upto < number_shown row
  pub apart : last_shown (from - 1) run + 1 < number_shown row

-- rows of an answer, read as far as a run from one number on up to another goes: the whole answer, or what stands before
-- a row behind a gap
abbrev pub IsReadRun : Command → Database → Row → ℕ → ℕ → List Row → Type 0
IsReadRun command db params from upto run = ReadsAll command db params run ⊎ StopsAt command db params from upto run

-- the command that is understood of a text
abbrev pub IsCommand : Result Compiled CompileError → Command → Type 0
IsCommand (Ok compiled) command = compiled.command ≡ command
IsCommand (Err fault) command = ⊥

-- a query in a transaction changed nothing, and these rows are its answer
pub record ShowsInside (sql : List ℕ) (params : Row) (old new : State) (rows : List Row) : Type 0 where
  pub seen : Shows old new old.now old.committed true
  pub reads : (command : Command) → IsCommand (understood desk_schema sql) command → ReadsAll command old.now params rows

-- the cell has this text or one after it
abbrev pub is_from_text : List ℕ → Value → Bool
is_from_text text (Text t) = is_ge (slice_cmp nat_cmp t text)
is_from_text text _ = false

-- the cell has this number or a greater one
abbrev pub is_from : ℕ → Value → Bool
is_from count (Int (pos n)) = not (nat_lt n count)
is_from count _ = false
