-- The schema of the six tables, as it is read from their texts.
use Rattle.std.specs.Prelude.{Bool, true, false, List, [], ◌∷◌, None, Some, codes, ℕ, pos}
use Rattle.sqlite_value.specs.declared.value.Value.TheVariants.{Null, Int}
use Rattle.sqlite_value.specs.declared.keys.Collation.TheVariants.{Binary}
use Rattle.sqlite_value.specs.Keys.{plain}
use Rattle.sqlite_schema.specs.declared.schema.Kind.{Kind}
use Rattle.sqlite_schema.specs.declared.schema.Kind.TheVariants.{Integer, Text}
use Rattle.sqlite_schema.specs.declared.schema.Column.{Column}
use Rattle.sqlite_schema.specs.declared.schema.Table.{Table}
use Rattle.sqlite_schema.specs.declared.schema.Schema.{Schema}
use Rattle.sqlite_sql.specs.declared.ops.BinaryOp.TheVariants.{Compare, And}
use Rattle.sqlite_sql.specs.declared.ops.CompareOp.{CompareOp}
use Rattle.sqlite_sql.specs.declared.ops.CompareOp.TheVariants.{Eq, Ge, Le}
use Rattle.sqlite_sql.specs.Term.{Term, lit, col, op2}
use Rattle.sqlite_catalog.specs.Listing.{automatic}

-- the trees of the tables; that of a key's index follows its table's
abbrev pub desk_tree : ℕ
desk_tree = 0

abbrev pub panel_tree : ℕ
panel_tree = 1

abbrev pub command_tree : ℕ
command_tree = 3

abbrev pub place_tree : ℕ
place_tree = 5

abbrev pub shown_tree : ℕ
shown_tree = 7

abbrev pub imported_tree : ℕ
imported_tree = 9

abbrev pub column_of : List ℕ → Kind → Bool → Column
column_of name kind not_null =
    record { name = name; kind = kind; is_strict = true; not_null = not_null; default = Null; collation = Binary }

-- a column of the row compared with a number
abbrev pub compared : CompareOp → ℕ → ℕ → Term
compared how column number = op2 (Compare how Binary) (col 1 column) (lit (Int (pos number)))

abbrev pub both : Term → Term → Term
both one other = op2 And one other

abbrev pub desk_table : Table
desk_table = record {
  name = codes "desk";
  tree = desk_tree;
  columns = column_of (codes "id") Integer false ∷ column_of (codes "version") Integer true ∷ column_of (codes "last") Integer false ∷ [];
  key = Some 0;
  primary = 0 ∷ [];
  uniques = [];
  orders = [];
  checks = op2 (Compare Eq Binary) (col 1 0) (lit (Int (pos 1))) ∷ [];
  references = [];
  computed = [];
  stamps = record { places = []; terms = []; formats = [] };
  is_counted = false;
}

-- a table whose key is these columns
abbrev pub keyed_table : List ℕ → ℕ → List Column → List ℕ → List Term → Table
keyed_table name tree columns key checks = record {
  name = name;
  tree = tree;
  columns = columns;
  key = None;
  primary = key;
  uniques = key ∷ [];
  orders = plain ∷ [];
  checks = checks;
  references = [];
  computed = [];
  stamps = record { places = []; terms = []; formats = [] };
  is_counted = false;
}

abbrev pub panel_table : Table
panel_table =
    keyed_table (codes "panel") panel_tree (column_of (codes "name") Text true ∷ column_of (codes "next") Integer true ∷ [])
    (1 ∷ []) (compared Ge 2 1 ∷ [])

abbrev pub command_table : Table
command_table = keyed_table (codes "command") command_tree
    (column_of (codes "panel") Text true ∷ column_of (codes "number") Integer true ∷ column_of (codes "point") Text true
    ∷ column_of (codes "priority") Integer true
    ∷ column_of (codes "value") Integer false ∷ column_of (codes "state") Integer true ∷ column_of (codes "a") Integer false
    ∷ column_of (codes "b") Integer false ∷ [])
    (1 ∷ 2 ∷ []) (both (compared Ge 6 0) (compared Le 6 2) ∷ [])

abbrev pub place_table : Table
place_table =
    keyed_table (codes "place") place_tree (column_of (codes "point") Text true ∷ column_of (codes "priority") Integer true
    ∷ column_of (codes "value") Integer true ∷ [])
    (1 ∷ 2 ∷ []) (both (compared Ge 2 1) (compared Le 2 16) ∷ [])

abbrev pub shown_table : Table
shown_table =
    keyed_table (codes "shown") shown_tree (column_of (codes "schedule") Text true ∷ column_of (codes "value") Integer false ∷ [])
    (1 ∷ []) []

abbrev pub imported_table : Table
imported_table =
    keyed_table (codes "imported") imported_tree (column_of (codes "calendar") Text true ∷ column_of (codes "entry") Text true ∷ [])
    (1 ∷ 2 ∷ []) []

-- the schema after so many of the tables were made
abbrev pub schema_0 : Schema
schema_0 = record { tables = []; indexes = []; views = [] }

abbrev pub schema_1 : Schema
schema_1 = record { tables = desk_table ∷ []; indexes = []; views = [] }

abbrev pub schema_2 : Schema
schema_2 = record { tables = desk_table ∷ panel_table ∷ []; indexes = automatic panel_table 0 (1 ∷ []) 2 ∷ []; views = [] }

abbrev pub schema_3 : Schema
schema_3 =
    record {
      tables = desk_table ∷ panel_table ∷ command_table ∷ [];
      indexes = automatic panel_table 0 (1 ∷ []) 2 ∷ automatic command_table 0 (1 ∷ 2 ∷ []) 4 ∷ [];
      views = [];
    }

abbrev pub schema_4 : Schema
schema_4 = record {
  tables = desk_table ∷ panel_table ∷ command_table ∷ place_table ∷ [];
  indexes = automatic panel_table 0 (1 ∷ []) 2 ∷ automatic command_table 0 (1 ∷ 2 ∷ []) 4 ∷ automatic place_table 0 (1 ∷ 2 ∷ []) 6 ∷ [];
  views = [];
}

abbrev pub schema_5 : Schema
schema_5 = record {
  tables = desk_table ∷ panel_table ∷ command_table ∷ place_table ∷ shown_table ∷ [];
  indexes =
      automatic panel_table 0 (1 ∷ []) 2 ∷ automatic command_table 0 (1 ∷ 2 ∷ []) 4 ∷ automatic place_table 0 (1 ∷ 2 ∷ []) 6
      ∷ automatic shown_table 0 (1 ∷ []) 8 ∷ [];
  views = [];
}

-- the schema of the six tables
abbrev pub desk_schema : Schema
desk_schema = record {
  tables = desk_table ∷ panel_table ∷ command_table ∷ place_table ∷ shown_table ∷ imported_table ∷ [];
  indexes =
      automatic panel_table 0 (1 ∷ []) 2 ∷ automatic command_table 0 (1 ∷ 2 ∷ []) 4 ∷ automatic place_table 0 (1 ∷ 2 ∷ []) 6
      ∷ automatic shown_table 0 (1 ∷ []) 8
      ∷ automatic imported_table 0 (1 ∷ 2 ∷ []) 10 ∷ [];
  views = [];
}
