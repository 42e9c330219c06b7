-- What the statements on one table mean.
use Rattle.std.specs.Prelude.{ℕ, Bool, false, List, [], ◌∷◌, None, pos, negsuc}
use Rattle.std.specs.List.{list_all}
use Rattle.sqlite_value.specs.declared.keys.Collation.TheVariants.{Binary}
use Rattle.sqlite_value.specs.declared.value.Value.TheVariants.{Int}
use Rattle.sqlite_value.specs.Keys.{ascending}
use Rattle.sqlite_value.specs.Order.{Row}
use Rattle.sqlite_sql.specs.declared.ops.BinaryOp.TheVariants.{Compare}
use Rattle.sqlite_sql.specs.declared.ops.CompareOp.{CompareOp}
use Rattle.sqlite_sql.specs.declared.ops.CompareOp.TheVariants.{Eq}
use Rattle.sqlite_sql.specs.Query.{Query, inner, end}
use Rattle.sqlite_sql.specs.Term.{Term, lit, col, op2, eval_all, holds}
use Rattle.sqlite_schema.specs.declared.command.Command.{Command}
use Rattle.sqlite_schema.specs.declared.command.Command.TheVariants.{Select, Delete}

-- the rows of a table that pass the terms, and of each what the terms show
abbrev pub plain_query : ℕ → List Term → List Term → Query
plain_query tree terms project = record {
  from = inner tree end;
  filter = terms;
  group = None;
  project = project;
  distinct = false;
  collations = [];
  order = [];
  limit = lit (Int (negsuc 0));
  offset = lit (Int (pos 0));
}

-- of the rows of a table that pass the terms, a column of the one where it is least
abbrev pub least_query : ℕ → List Term → ℕ → Query
least_query tree terms column = record {
  from = inner tree end;
  filter = terms;
  group = None;
  project = col 1 column ∷ [];
  distinct = false;
  collations = [];
  order = (col 1 column, ascending Binary) ∷ [];
  limit = lit (Int (pos 1));
  offset = lit (Int (pos 0));
}

-- the rows of a table that pass the terms, in the order of a column, which is shown before what the terms show
abbrev pub ordered_query : ℕ → List Term → ℕ → List Term → Query
ordered_query tree terms column project = record {
  from = inner tree end;
  filter = terms;
  group = None;
  project = col 1 column ∷ project;
  distinct = false;
  collations = [];
  order = (col 1 column, ascending Binary) ∷ [];
  limit = lit (Int (negsuc 0));
  offset = lit (Int (pos 0));
}

-- the row passes the terms, with these parameters
abbrev pub passes : List Term → Row → Row → Bool
passes terms params row = list_all (holds (params ∷ row ∷ [])) terms

-- what the terms show of a row
abbrev pub shows : List Term → Row → Row → Row
shows project params row = eval_all project (params ∷ row ∷ [])

-- a column of the row compared with a parameter
abbrev pub compared_with : CompareOp → ℕ → ℕ → Term
compared_with how column at = op2 (Compare how Binary) (col 1 column) (col 0 at)

-- a column of the row is a parameter
abbrev pub given : ℕ → ℕ → Term
given = compared_with Eq

abbrev pub selection : ℕ → List Term → List Term → List (List ℕ) → Command
selection tree terms project names = Select (record { lets = []; body = plain_query tree terms project }) names

abbrev pub least : ℕ → List Term → ℕ → List (List ℕ) → Command
least tree terms column names = Select (record { lets = []; body = least_query tree terms column }) names

abbrev pub ordered : ℕ → List Term → ℕ → List Term → List (List ℕ) → Command
ordered tree terms column project names = Select (record { lets = []; body = ordered_query tree terms column project }) names

abbrev pub deletion : ℕ → ℕ → List Term → Command
deletion at tree terms = Delete at (record { lets = []; body = plain_query tree terms (col 1 0 ∷ []) })
