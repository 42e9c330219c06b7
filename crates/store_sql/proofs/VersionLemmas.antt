-- What setting the version makes of the tables.
use Rattle.std.proofs.Common.{◌≡◌, inl, ℕ, pos, true, [], ◌∷◌, drop, Some, Ok, Err, Result, refl, sym, ap, subst, OnOk, true≢false}
use Rattle.std.proofs.lemmas.Bool.{and_parts}
use Rattle.sqlite_value.specs.declared.value.Value.{Value}
use Rattle.sqlite_value.specs.declared.value.Value.TheVariants.{Blob, Int, Null, Real, Text}
use Rattle.sqlite_value.specs.Order.{Row, column}
use Rattle.sqlite_rules.specs.Cast.{cast}
use Rattle.sqlite_rules.specs.Edit.{id_in}
use Rattle.sqlite_rules.specs.Lists.{Has}
use Rattle.sqlite_rules.proofs.ListLemmas.{all_has}
use Rattle.sqlite_rules.proofs.TableLemmas.{int_is}
use Rattle.sqlite_schema.specs.declared.schema.Constraint.TheVariants.{Datatype}
use Rattle.sqlite_schema.specs.declared.schema.Kind.TheVariants.{Integer}
use Rattle.sqlite_schema.specs.Rules.{are_typed, is_of}
use Rattle.sqlite_trees.specs.Tree.{rowid}
use Rattle.sqlite.specs.declared.error.Error.{Error}
use Rattle.sqlite.specs.Effect.{Database}
use Rattle.sqlite.specs.State.{ExecutesInside, State}
use Rattle.store_sql_rows.specs.Schema.{desk_table, desk_tree}
use Rattle.store_sql_rows.specs.Ours.{IsInside, IsOurs, Makes, kept_in}
use Rattle.store_sql_rows.proofs.CellLemmas.{cast_int, cast_null}
use Rattle.store_sql_rows.proofs.DeskLemmas.{desk_updated}
use Rattle.store_sql_rows.proofs.DeskTexts.{set_version_is, set_version_plain, set_version_text, version_set}
use Rattle.store_sql_rows.proofs.TypeLemmas.{ruled}
use Rattle.store_sql_rows.proofs.StoredLemmas.{set_version}
use Rattle.store_sql.specs.Opening.{SetsVersion, version_in}

-- ---- the cell of the last tick keeps its value

typed_last : (row : Row) → are_typed (Some 0) 0 desk_table.columns (drop 1 row) ≡ true → is_of Integer (column row 3) ≡ true
typed_last [] is = refl
typed_last (r ∷ []) is = refl
typed_last (r ∷ a ∷ []) is = refl
typed_last (r ∷ a ∷ b ∷ []) is = refl
typed_last (r ∷ a ∷ b ∷ c ∷ more) is = (and_parts _ _ (and_parts _ _ (and_parts _ _ is).1).1).0

cast_same : (cell : Value) → is_of Integer cell ≡ true → cast Integer cell ≡ cell
cast_same Null is = cast_null
cast_same (Int n) is = cast_int n
cast_same (Real x) is = absurd (true≢false (sym is))
cast_same (Text s) is = absurd (true≢false (sym is))
cast_same (Blob b) is = absurd (true≢false (sym is))

pub last_typed : (db : Database) → IsOurs db → (row : Row) → db.trees desk_tree ≡ row ∷ [] → is_of Integer (column row 3) ≡ true
last_typed db ours row one =
    let typed = all_has _ (db.trees desk_tree) row (ruled Datatype db ours).0 (subst (λ l. Has l row) (sym one) (inl refl)) in
    typed_last row (and_parts _ _ typed).0

pub last_kept : (db : Database) → IsOurs db → (row : Row) → db.trees desk_tree ≡ row ∷ [] → cast Integer (column row 3) ≡ column row 3
last_kept db ours row one = cast_same (column row 3) (last_typed db ours row one)

-- ---- the row of `desk` after the statement

pub sets_version : (old new : State) (result : Result ℕ Error) → IsInside old → ExecutesInside 0 set_version_text [] old new result
    → OnOk result (SetsVersion old new)
sets_version old new (Err e) inside h = tt
sets_version old new (Ok count) inside h =
    let desk = inside.ours.rows.desk in
    let was = desk.row in
    let db = old.now.trees in
    let row : Row = rowid was ∷ Null ∷ Int (pos 2) ∷ column was 3 ∷ [] in
    let own = int_is (rowid was) desk.numbered in
    let last = last_kept old.now inside.ours was desk.is in
    let set =
    desk_updated set_version_text version_set set_version_plain set_version_is old new [] (Null ∷ Int (pos 2) ∷ column was 3 ∷ []) count
    inside refl (rw (last, cast_null, cast_int (pos 2), own, cast_int (id_in (rowid was))) refl) h.0 in
    let same = set_version was row (kept_in db) desk.is refl in
    record {
      turns = record {
        inside = record { in_transaction = h.1.mode; ours = set.ours };
        makes =
            subst (Makes (λ t. t) (kept_in db)) (sym set.others) (record { tables = same.0; is_sound = same.1; stands = same.2 });
      };
      version = ap version_in set.now;
    }
