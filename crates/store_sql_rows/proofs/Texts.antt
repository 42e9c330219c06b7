-- What a text means over the six tables.
use Rattle.std.proofs.Common.{◌≡◌, ℕ, false, List, [], ◌∷◌}
use Rattle.sqlite_schema.specs.declared.command.Command.{Command}
use Rattle.sqlite_sql.specs.declared.ops.CompareOp.TheVariants.{Ge, Le}
use Rattle.sqlite_sql.specs.Term.{Term}
use Rattle.sqlite.specs.Given.{IsPlain}
use Rattle.sqlite.specs.Listing.{reads_listing, understood}
use Rattle.sqlite.proofs.Callers.{command_of}
use Rattle.store_sql_rows.specs.Schema.{desk_schema}
use Rattle.store_sql_rows.specs.Meanings.{compared_with}

-- the text runs this command, whose parts are plain, and reads no listing of the tables
pub record Runs (sql : List ℕ) (command : Command) : Type 0 where
  pub is : command_of (understood desk_schema sql) ≡ command
  pub plain : IsPlain (understood desk_schema sql)
  pub unlisted : reads_listing desk_schema sql ≡ false

-- the rows whose numbers lie between the first two parameters
abbrev pub between : List Term
between = compared_with Ge 0 0 ∷ compared_with Le 0 1 ∷ []
