-- The statements on the row of `desk`.
use Rattle.std.proofs.Common.{◌≡◌, ℕ, ℤ, true, List, [], ◌∷◌, codes, drop, filter, map, Ok, Err, Result, refl, sym, ap, subst, ◌∙◌, IfOk, IsTrue, OnOk}
use Rattle.std.specs.List.Sorted.{IsPermutation}
use Rattle.sqlite.proofs.Callers.{command_of, one_permutation}
use Rattle.sqlite_value.specs.declared.value.Value.TheVariants.{Int, Null}
use Rattle.sqlite_value.specs.Order.{Row, column}
use Rattle.sqlite_sql.specs.Term.{Term, col}
use Rattle.sqlite_schema.specs.declared.command.Command.TheVariants.{Update}
use Rattle.sqlite_rules.specs.declared.error.Rowids.TheVariants.{Given}
use Rattle.sqlite_rules.specs.Calls.{ids_of}
use Rattle.sqlite_rules.specs.Cast.{cast, cast_row}
use Rattle.sqlite_rules.specs.Edit.{edit_of, id_in, numbered, put_all, without_all}
use Rattle.sqlite_rules.proofs.PlaceLemmas.{given as numbered_given}
use Rattle.sqlite_rules.proofs.TableLemmas.{int_is}
use Rattle.sqlite_schema.specs.declared.schema.Kind.TheVariants.{Integer}
use Rattle.sqlite_trees.specs.Tree.{rowid}
use Rattle.sqlite_trees.specs.View.{is_int}
use Rattle.sqlite.specs.declared.error.Error.{Error}
use Rattle.sqlite.specs.Given.{IsPlain}
use Rattle.sqlite.specs.Listing.{understood}
use Rattle.sqlite.specs.State.{Executes, ExecutesInside, Shown, State}
use Rattle.store_sql_rows.specs.Schema.{desk_schema, desk_table, desk_tree}
use Rattle.store_sql_rows.specs.Looking.{Finds}
use Rattle.store_sql_rows.specs.Meanings.{passes, plain_query, shows}
use Rattle.store_sql_rows.specs.Ours.{AreOurs, Changes, IsInside, IsOurs, SetsDesk, kept_in}
use Rattle.store_sql_rows.proofs.CellLemmas.{cast_int, cast_null}
use Rattle.store_sql_rows.proofs.DeskTexts.{find_is, find_plain, find_text, find_unlisted, last_set, set_last_is, set_last_plain, set_last_text}
use Rattle.store_sql_rows.proofs.RestLemmas.{finds}
use Rattle.store_sql_rows.proofs.RowLemmas.{has_own_id}
use Rattle.store_sql_rows.proofs.SlotLemmas.{others_stay, ours_from}
use Rattle.store_sql_rows.proofs.WriteLemmas.{Ran, updates}

-- the one row is taken out by its number
pub taken_out : (row : Row) (answer : Row) → IsTrue (is_int (rowid row)) → rowid answer ≡ rowid row
    → without_all (row ∷ []) (ids_of (answer ∷ [])) ≡ []
taken_out row answer int same = rw (same, has_own_id row int) refl

-- what an UPDATE shows of the one row
pub one_shown : (project : List Term) (params : Row) (rows answer : List Row) (row : Row) → rows ≡ row ∷ []
    → IsPermutation (map (shows project params) (filter (passes [] params) rows)) answer → answer ≡ shows project params row ∷ []
one_shown project params rows answer row is same =
    one_permutation (shows project params row) answer
    (subst (λ l. IsPermutation (map (shows project params) (filter (passes [] params) l)) answer) is same)

-- `desk` has this row, and the other tables have the rows that they had
pub record HasDesk (row : Row) (old new : State) : Type 0 where
  pub now : new.now.trees desk_tree ≡ row ∷ []
  pub others : kept_in new.now.trees ≡ record (kept_in old.now.trees) { desk = row ∷ [] }
  pub ours : IsOurs new.now

-- an UPDATE of the row of `desk` that keeps its number
pub desk_updated : (sql : List ℕ) (set : List Term) → IsPlain (understood desk_schema sql)
    → command_of (understood desk_schema sql) ≡ Update 0 (record { lets = []; body = plain_query desk_tree [] set })
    → (old new : State) (params cells : Row) (count : ℕ) (inside : IsInside old)
    → rowid (shows set params inside.ours.rows.desk.row) ≡ rowid inside.ours.rows.desk.row
    → cast_row desk_table (drop 1 (shows set params inside.ours.rows.desk.row)) ≡ rowid inside.ours.rows.desk.row ∷ cells
    → Executes sql params old new (Ok count) → HasDesk (rowid inside.ours.rows.desk.row ∷ cells) old new
desk_updated sql set plain is old new params cells count inside same made h =
    let desk = inside.ours.rows.desk in
    let db = old.now.trees in
    let shown = shows set params desk.row in
    let row = rowid desk.row ∷ cells in
    let gave = updates sql 0 desk_table refl plain desk_tree [] set is old new params count inside.ours.schema_is h in
    let one = one_shown set params (db desk_tree) gave.0 desk.row desk.is gave.1 in
    let ran = subst (λ l. Ran old new (edit_of db desk_table (ids_of l) Given 1 l)) one gave.2 in
    let left : without_all (db desk_tree) (ids_of (shown ∷ [])) ≡ [] =
    ap (λ l. without_all l (ids_of (shown ∷ []))) desk.is ∙ taken_out desk.row shown desk.numbered same in
    let now : new.now.trees desk_tree ≡ row ∷ [] =
    ran.applies.rows ∙ ap (λ l. put_all l (numbered Given l (cast_row desk_table (drop 1 shown) ∷ []))) left
    ∙ ap (put_all []) (numbered_given [] (cast_row desk_table (drop 1 shown) ∷ [])) ∙ ap (λ r. put_all [] (r ∷ [])) made in
    let others : kept_in new.now.trees ≡ record (kept_in db) { desk = row ∷ [] } =
    others_stay db new.now.trees (edit_of db desk_table (ids_of (shown ∷ [])) Given 1 (shown ∷ [])) desk_tree refl ran.applies
    ∙ (λ i. record (kept_in db) { desk = now i }) in
    let rows = inside.ours.rows in
    let stand = ours_from (record (kept_in db) { desk = row ∷ [] }) (record { row = row; is = refl; numbered = desk.numbered })
    rows.panel rows.command rows.place rows.shown rows.imported in
    record {
      now = now;
      others = others;
      ours = record { schema_is = ran.schema; sound = ran.sound; rows = subst AreOurs (sym others) stand };
    }

pub sets_last : (moment : ℤ) (old new : State) (result : Result ℕ Error) → IsInside old
    → ExecutesInside 0 set_last_text (Int moment ∷ []) old new result → OnOk result (Changes (SetsDesk (λ _. Int moment)) old new)
sets_last moment old new (Err e) inside h = tt
sets_last moment old new (Ok count) inside h =
    let desk = inside.ours.rows.desk in
    let cells = Null ∷ cast Integer (column desk.row 2) ∷ Int moment ∷ [] in
    let own = int_is (rowid desk.row) desk.numbered in
    let set =
    desk_updated set_last_text last_set set_last_plain set_last_is old new (Int moment ∷ []) cells count inside refl
    (rw (cast_null, cast_int moment, own, cast_int (id_in (rowid desk.row))) refl) h.0 in
    record {
      seen = h.1;
      ours = set.ours;
      change = record { was = desk.row; row = rowid desk.row ∷ cells; had = desk.is; others = set.others; last_is = refl };
    }

pub find_shown : {V : Type 0} (items : V → List Row) (old new : State) (r : Result V Error) → old.now.schema ≡ desk_schema
    → IfOk r (λ v. Shown find_text [] old new (items v))
    → IfOk r (λ v. Finds (λ row. true) (λ row. column row 2 ∷ column row 3 ∷ []) (old.now.trees desk_tree) (items v))
find_shown items old new (Err e) has shown = tt
find_shown items old new (Ok v) has shown =
    finds find_text find_plain find_unlisted desk_tree [] (col 1 2 ∷ col 1 3 ∷ []) (codes "version" ∷ codes "last" ∷ []) find_is old
    new [] (items v) has shown
