-- The forms of the questions.
use Rattle.std.specs.Prelude.{ℕ, pos, List, [], ◌∷◌, codes}
use Rattle.sqlite_value.specs.declared.keys.Collation.TheVariants.{Binary}
use Rattle.sqlite_value.specs.declared.value.Value.TheVariants.{Int, Text}
use Rattle.sqlite_sql.specs.declared.ops.BinaryOp.TheVariants.{Compare, Is, Or}
use Rattle.sqlite_sql.specs.declared.ops.CompareOp.TheVariants.{Eq, Ne}
use Rattle.sqlite_sql.specs.declared.ops.UnaryOp.TheVariants.{Not, TypeOf}
use Rattle.sqlite_sql.specs.Query.{Query, inner, end}
use Rattle.sqlite_sql.specs.Term.{Term, lit, col, op1, op2}
use Rattle.sqlite_schema.specs.declared.command.Command.{Command}
use Rattle.sqlite_schema.specs.declared.command.Command.TheVariants.{Select}
use Rattle.store_sql_rows.specs.Meanings.{plain_query, selection}

abbrev pub one : List Term
one = lit (Int (pos 1)) ∷ []

-- the rowid is no number
abbrev pub has_no_number : Term
has_no_number = op2 (Compare Ne Binary) (op1 TypeOf (col 1 0)) (lit (Text (codes "integer")))

-- the rows without a number
abbrev pub unnumbered : ℕ → Command
unnumbered tree = selection tree (has_no_number ∷ []) one (codes "1" ∷ [])

-- the two rows share their rowid
abbrev pub share : Term
share = op2 (Compare Eq Binary) (col 1 0) (col 2 0)

-- the two rows differ in a column
abbrev pub differs : ℕ → Term
differs at = op1 Not (op2 (Is Binary) (col 1 at) (col 2 at))

abbrev pub differ : ℕ → ℕ → Term
differ at other = op2 Or (differs at) (differs other)

-- the pairs of rows of a table that pass the terms
abbrev pub pair_query : ℕ → List Term → Query
pair_query tree terms = record (plain_query tree terms one) { from = inner tree (inner tree end) }

-- the pairs that share their rowid and differ so
abbrev pub pairing : ℕ → Term → Command
pairing tree different = Select (record { lets = []; body = pair_query tree (share ∷ different ∷ []) }) (codes "1" ∷ [])
