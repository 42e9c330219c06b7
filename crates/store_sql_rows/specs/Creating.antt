-- What stands while the tables are made, and once they are.
use Rattle.std.specs.Prelude.{◌≡◌, pos, true, [], ◌∷◌, IsTrue, IfErr, OnOk, Result}
use Rattle.std.specs.List.{AllByRecursion}
use Rattle.sqlite_value.specs.declared.value.Value.TheVariants.{Null, Int}
use Rattle.sqlite_value.specs.Order.{Row}
use Rattle.sqlite_trees.specs.Tree.{Trees}
use Rattle.sqlite_schema.specs.declared.schema.Schema.{Schema}
use Rattle.sqlite_catalog.specs.Change.{next_tree, KeepsRows}
use Rattle.sqlite.specs.declared.error.Error.{Error}
use Rattle.sqlite.specs.State.{HasCleanDisk, KeepsCommit, State, Shows, Survives}
use Rattle.store_sql_rows.specs.Failing.{FailsFor}
use Rattle.store_sql_rows.specs.Schema.{desk_tree, panel_tree, command_tree, place_tree, shown_tree, imported_tree, desk_schema}

-- in a transaction over this schema
pub record IsInside (schema : Schema) (s : State) : Type 0 where
  pub mode : IsTrue s.in_transaction
  pub schema_is : s.now.schema ≡ schema

-- In a transaction there is one table more, which has no row, and each other has its rows.
pub record MakesTableIn (before after : Schema) (old new : State) : Type 0 where
  pub shown : Shows old new new.now old.committed true
  pub schema_is : new.now.schema ≡ after
  pub empty : new.now.trees (next_tree before) ≡ []
  pub others : KeepsRows before.tables old.now.trees new.now.trees

-- in a transaction over this schema, and no table of it has a row
pub record IsEmptyAs (schema : Schema) (s : State) : Type 0 where
  pub inside : IsInside schema s
  pub empty : AllByRecursion (λ t. s.now.trees t.tree ≡ []) schema.tables

-- the row of `desk`: its rowid is its id, and there was no tick yet
abbrev pub first_desk_row : Row
first_desk_row = Int (pos 1) ∷ Null ∷ Int (pos 2) ∷ Null ∷ []

-- the row of `desk` tells the version, and no other table has a row
pub record AreFirst (trees : Trees) : Type 0 where
  pub desk : trees desk_tree ≡ first_desk_row ∷ []
  pub panel : trees panel_tree ≡ []
  pub command : trees command_tree ≡ []
  pub place : trees place_tree ≡ []
  pub shown : trees shown_tree ≡ []
  pub imported : trees imported_tree ≡ []

-- in a transaction over the desk's schema, with its first rows
pub record IsFilled (s : State) : Type 0 where
  pub inside : IsInside desk_schema s
  pub first : AreFirst s.now.trees

-- the six tables stand, and are committed
pub record IsMade (old new : State) : Type 0 where
  pub was_open : IsTrue old.is_open
  pub is_open : IsTrue new.is_open
  pub same : new.now ≡ new.committed
  pub schema_is : new.now.schema ≡ desk_schema
  pub first : AreFirst new.now.trees

-- the connection shows what it showed
pub record IsAsBefore (old new : State) : Type 0 where
  pub now : new.now ≡ old.now
  pub committed : new.committed ≡ old.committed

-- A step of the transaction that makes the tables: what it does where it succeeds, and that the transaction then goes on;
-- whatever it reported, it commits nothing; and it fails for a cause.
pub record IsStep {A : Type 0} (Needs : State → Type 0) (Does : State → State → Type 0) (old new : State) (reported : Result A Error) : Type 0 where
  pub ok : HasCleanDisk new → Needs old → OnOk reported (Does old new)
  pub inside : HasCleanDisk new → IsTrue old.in_transaction → OnOk reported (IsTrue new.in_transaction)
  pub kept : HasCleanDisk new → KeepsCommit old new
  pub survives : Survives old new (λ _. ⊥)
  pub cause : HasCleanDisk new → Needs old → IfErr reported (FailsFor old new)
