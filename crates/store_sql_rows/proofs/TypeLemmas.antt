-- What the schema says of the cells of its rows.
use Rattle.std.proofs.Common.{◌≡◌, ℕ, Bool, true, false, not, List, [], ◌∷◌, drop, None, refl, sym, subst, subst₂}
use Rattle.std.proofs.lemmas.Bool.{and_parts}
use Rattle.sqlite_value.specs.declared.value.Value.{Value}
use Rattle.sqlite_value.specs.Order.{Row, column}
use Rattle.sqlite_sql.specs.Ops.{is_null}
use Rattle.sqlite_schema.specs.declared.schema.Column.{Column}
use Rattle.sqlite_schema.specs.declared.schema.Table.{Table}
use Rattle.sqlite_trees.specs.Tree.{Trees}
use Rattle.sqlite_schema.specs.declared.schema.Constraint.{Constraint}
use Rattle.sqlite_schema.specs.declared.schema.Constraint.TheVariants.{Datatype, NotNull}
use Rattle.sqlite_schema.specs.declared.schema.Kind.{Kind}
use Rattle.sqlite_schema.specs.Rules.{Keeps, are_present, are_typed, is_of, passes}
use Rattle.sqlite.specs.Effect.{Database}
use Rattle.store_sql_rows.specs.Schema.{column_of, desk_schema}
use Rattle.store_sql_rows.specs.Ours.{IsOurs}

pub ruled : (rule : Constraint) (db : Database) → IsOurs db → Keeps rule desk_schema db.trees
ruled rule db ours = subst (λ s. Keeps rule s db.trees) ours.schema_is (ours.sound.obeys.rules rule)

-- a cell has its kind, and is not NULL
pub record IsFilled (kind : Kind) (cell : Value) : Type 0 where
  pub of : is_of kind cell ≡ true
  pub filled : is_null cell ≡ false

not_true : (b : Bool) → not b ≡ true → b ≡ false
not_true false is = refl
not_true true is = sym is

first_typed : (name : List ℕ) (k : Kind) (not_null : Bool) (cs : List Column) (row : Row)
    → are_typed None 0 (column_of name k not_null ∷ cs) (drop 1 row) ≡ true → is_of k (column row 1) ≡ true
first_typed name k not_null cs [] is = refl
first_typed name k not_null cs (r ∷ []) is = refl
first_typed name k not_null cs (r ∷ v ∷ vs) is = (and_parts _ _ is).0

second_typed : (c : Column) (name : List ℕ) (k : Kind) (not_null : Bool) (cs : List Column) (row : Row)
    → are_typed None 0 (c ∷ column_of name k not_null ∷ cs) (drop 1 row) ≡ true → is_of k (column row 2) ≡ true
second_typed c name k not_null cs [] is = refl
second_typed c name k not_null cs (r ∷ []) is = refl
second_typed c name k not_null cs (r ∷ v ∷ []) is = refl
second_typed c name k not_null cs (r ∷ v ∷ w ∷ vs) is = (and_parts _ _ (and_parts _ _ is).1).0

-- the first cell of a table whose first column is NOT NULL, and the second where two are
pub first_filled : (table : Table) (name : List ℕ) (k : Kind) (cs : List Column) → table.key ≡ None
    → table.columns ≡ column_of name k true ∷ cs → (db : Trees) (row : Row)
    → passes Datatype desk_schema db table row ≡ true → passes NotNull desk_schema db table row ≡ true → IsFilled k (column row 1)
first_filled table name k cs no_key columns db row typed present =
    let typed_all = subst₂ (λ key cols. are_typed key 0 cols (drop 1 row) ≡ true) no_key columns (and_parts _ _ typed).0 in
    let present_all = subst₂ (λ key cols. are_present key 0 cols row ≡ true) no_key columns present in
    record { of = first_typed name k true cs row typed_all; filled = not_true (is_null (column row 1)) (and_parts _ _ present_all).0 }

pub second_filled : (table : Table) (c : Column) (name : List ℕ) (k : Kind) (cs : List Column) → table.key ≡ None
    → table.columns ≡ c ∷ column_of name k true ∷ cs → (db : Trees) (row : Row)
    → passes Datatype desk_schema db table row ≡ true → passes NotNull desk_schema db table row ≡ true → IsFilled k (column row 2)
second_filled table c name k cs no_key columns db row typed present =
    let typed_all = subst₂ (λ key cols. are_typed key 0 cols (drop 1 row) ≡ true) no_key columns (and_parts _ _ typed).0 in
    let present_all = subst₂ (λ key cols. are_present key 0 cols row ≡ true) no_key columns present in
    record {
      of = second_typed c name k true cs row typed_all;
      filled = not_true (is_null (column row 2)) (and_parts _ _ (and_parts _ _ present_all).1).0;
    }
