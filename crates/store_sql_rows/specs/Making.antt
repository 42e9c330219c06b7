-- What a text that makes a table means.
use Rattle.std.specs.Prelude.{◌≡◌, ℕ, List, Ok}
use Rattle.sqlite_resolve.specs.Compile.{table_defined_by}
use Rattle.sqlite_schema.specs.declared.schema.Table.{Table}
use Rattle.sqlite_schema.specs.declared.schema.Schema.{Schema}
use Rattle.sqlite_schema.specs.declared.command.Command.TheVariants.{CreateTable}
use Rattle.sqlite.specs.Listing.{understood}
use Rattle.sqlite.specs.Given.{IsPlain}
use Rattle.sqlite.proofs.Callers.{command_of, statement_of}

-- the text makes the table where the schema stands, and means nothing else
pub record MakesTable (schema : Schema) (sql : List ℕ) (table : Table) : Type 0 where
  pub command : command_of (understood schema sql) ≡ CreateTable
  pub statement : statement_of sql (understood schema sql) ≡ sql
  pub defined : table_defined_by sql ≡ Ok (record table { tree = 0 })
  pub plain : IsPlain (understood schema sql)
