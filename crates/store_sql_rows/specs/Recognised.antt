-- The parts of a schema that are looked at one by one.
use Rattle.std.specs.Prelude.{ℕ, ℤ, true, List}
use Rattle.sqlite_value.specs.declared.value.Value.TheVariants.{Int}
use Rattle.sqlite_value.specs.declared.keys.Collation.TheVariants.{Binary}
use Rattle.sqlite_value.specs.Keys.{plain}
use Rattle.sqlite_schema.specs.declared.schema.Index.{Index}
use Rattle.sqlite_sql.specs.declared.ops.BinaryOp.TheVariants.{Compare}
use Rattle.sqlite_sql.specs.declared.ops.CompareOp.{CompareOp}
use Rattle.sqlite_sql.specs.Term.{Term, lit, col, op2}

-- a column of the row compared with a number
abbrev pub comparison : CompareOp → ℕ → ℤ → Term
comparison how column number = op2 (Compare how Binary) (col 1 column) (lit (Int number))

-- the index of a table's key
abbrev pub key_index : List ℕ → ℕ → ℕ → List ℕ → Index
key_index name tree table columns = record { name = name; tree = tree; table = table; columns = columns; order = plain; is_unique = true }
