-- A database with the schema of the six tables, whoever wrote its rows.
use Rattle.std.specs.Prelude.{◌≡◌, IsTrue, List, [], ◌∷◌}
use Rattle.sqlite_rules.specs.Lists.{Has}
use Rattle.sqlite_trees.specs.Tree.{rowid}
use Rattle.sqlite_trees.specs.View.{is_int}
use Rattle.sqlite_value.specs.Order.{Row}
use Rattle.sqlite.specs.Effect.{Database, IsDatabase}
use Rattle.store_sql_rows.specs.Schema.{desk_schema}

-- a database with the schema of the six tables, which obeys it
pub record IsFitting (db : Database) : Type 0 where
  pub schema_is : db.schema ≡ desk_schema
  pub sound : IsDatabase db

abbrev pub AreNumbered : List Row → Type 0
AreNumbered rows = (row : Row) → Has rows row → IsTrue (is_int (rowid row))

abbrev pub IsAlone : List Row → Type 0
IsAlone rows = (row : Row) × (rows ≡ row ∷ [])
