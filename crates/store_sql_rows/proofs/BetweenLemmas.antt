-- What the statements on the rows between two numbers make of one of the keyed tables.
use Rattle.std.proofs.Common.{◌≡◌, inl, inr, ℕ, ℤ, Bool, true, not, ◌&&◌, List, drop, [], ◌∷◌, filter, map, Ok, Err, IfOk, Result, Some, false, refl, sym, ap, ap₂, subst, subst₂, ◌∙◌, OnOk, IsTrue}
use Rattle.std.proofs.lemmas.Bool.{and_parts}
use Rattle.std.proofs.lemmas.List.Sorted.{IsPermutation-map}
use Rattle.std.specs.List.Sorted.{IsPermutation}
use Rattle.std.specs.Ordering.{is_ge, is_le}
use Rattle.sqlite_value.specs.declared.value.Value.TheVariants.{Int}
use Rattle.sqlite_value.specs.Order.{Row, value_cmp}
use Rattle.sqlite_schema.specs.declared.command.Command.TheVariants.{Update}
use Rattle.sqlite_sql.specs.declared.ops.BinaryOp.TheVariants.{Compare}
use Rattle.sqlite_sql.specs.declared.ops.CompareOp.TheVariants.{Ge, Le}
use Rattle.sqlite_sql.specs.Ops.{binary, from_truth, is_true}
use Rattle.sqlite_value.specs.declared.keys.Collation.TheVariants.{Binary}
use Rattle.sqlite_sql.specs.Term.{Term, col}
use Rattle.sqlite_rules.specs.Calls.{ids_of}
use Rattle.sqlite_rules.specs.Cast.{cast_row}
use Rattle.sqlite_rules.specs.Edit.{are_fresh, id_in, put_all, without_all}
use Rattle.sqlite_rules.specs.Lists.{Has}
use Rattle.sqlite_rules.proofs.ListLemmas.{has_filtered}
use Rattle.sqlite_rules.proofs.PlaceLemmas.{given as numbered_given}
use Rattle.sqlite_rules.proofs.ProbeLemmas.{has_mapped}
use Rattle.sqlite_rules.proofs.TableLemmas.{int_is}
use Rattle.sqlite_trees.specs.Tree.{put_row, rowid}
use Rattle.sqlite_trees.specs.View.{is_int}
use Rattle.sqlite.specs.declared.error.Error.{Error}
use Rattle.sqlite.specs.Effect.{Database}
use Rattle.sqlite.specs.Given.{IsPlain}
use Rattle.sqlite.specs.Listing.{understood}
use Rattle.sqlite.specs.State.{ExecutesInside, State}
use Rattle.sqlite.proofs.Callers.{command_of}
use Rattle.store_sql_rows.specs.Schema.{desk_schema}
use Rattle.store_sql_rows.specs.Meanings.{passes, plain_query, selection, shows}
use Rattle.store_sql_rows.specs.Looking.{Finds, ShowsInside, Stays}
use Rattle.store_sql_rows.specs.Ours.{AreOwn, Changes, GainsAll, IsInside, IsOurs, Remakes, is_between, kept_in}
use Rattle.store_sql_rows.specs.Slot.{On, Slot}
use Rattle.store_sql_rows.proofs.AnswerLemmas.{map_map, plain_program}
use Rattle.store_sql_rows.proofs.CellLemmas.{and_true}
use Rattle.store_sql_rows.proofs.ExchangeLemmas.{own_put_all}
use Rattle.store_sql_rows.proofs.PickedLemmas.{taken_out}
use Rattle.store_sql_rows.proofs.RestLemmas.{finds_same}
use Rattle.store_sql_rows.proofs.RowLemmas.{filter_same, has_permuted, own_filtered, put_apart}
use Rattle.store_sql_rows.proofs.SlotLemmas.{IsSlot, changed, not_true, own_rows}
use Rattle.store_sql_rows.proofs.StepwiseLemmas.{is_command}
use Rattle.store_sql_rows.proofs.Texts.{Runs, between}
use Rattle.store_sql_rows.proofs.WriteLemmas.{updates}

-- ---- the rows between two numbers

from_truth_of : (b : Bool) → is_true (from_truth (Some b)) ≡ b
from_truth_of true = refl
from_truth_of false = refl

numbers_ge : (m n : ℤ) → is_true (binary (Compare Ge Binary) (Int m) (Int n)) ≡ is_ge (value_cmp (Int m) (Int n))
unfolding binary
numbers_ge m n = from_truth_of _

numbers_le : (m n : ℤ) → is_true (binary (Compare Le Binary) (Int m) (Int n)) ≡ is_le (value_cmp (Int m) (Int n))
unfolding binary
numbers_le m n = from_truth_of _

pub passes_between : (first last : ℤ) (more row : Row) → IsTrue (is_int (rowid row))
    → passes between (Int first ∷ Int last ∷ more) row ≡ is_between first last row
passes_between first last more row numbered =
    let from = subst (λ v. is_true (binary (Compare Ge Binary) v (Int first)) ≡ is_ge (value_cmp v (Int first)))
    (sym (int_is (rowid row) numbered)) (numbers_ge (id_in (rowid row)) first) in
    let upto = subst (λ v. is_true (binary (Compare Le Binary) v (Int last)) ≡ is_le (value_cmp v (Int last)))
    (sym (int_is (rowid row) numbered)) (numbers_le (id_in (rowid row)) last) in
    rw (from, upto, and_true) refl

-- it is the number alone that tells
pub tied_between : (first last : ℤ) (a b : Row) → rowid a ≡ rowid b → is_between first last a ≡ is_between first last b
tied_between first last a b tied = ap (λ v. is_ge (value_cmp v (Int first)) && is_le (value_cmp v (Int last))) tied

-- ---- an UPDATE of the rows that it picks

map_same : (f g : Row → Row) (rows : List Row) → ((row : Row) → Has rows row → f row ≡ g row) → map f rows ≡ map g rows
map_same f g [] same = refl
map_same f g (r ∷ rows) same = ap₂ (λ x l. x ∷ l) (same r (inl refl)) (map_same f g rows (λ row h. same row (inr h)))

gains_all : (news rows : List Row) → are_fresh rows news ≡ true → GainsAll news rows (put_all rows news)
gains_all [] rows fresh = refl
gains_all (n ∷ news) rows fresh =
    let parts = and_parts _ _ fresh in
    let free = not_true _ parts.0 in
    (put_row n rows, free, put_apart n rows free, gains_all news (put_row n rows) parts.1)

module _ (slot : Slot) (is_slot : IsSlot slot) (sql : List ℕ) (plain : IsPlain (understood desk_schema sql)) (terms set : List Term)
    (is : command_of (understood desk_schema sql)
    ≡ Update slot.at (record { lets = []; body = plain_query slot.table.tree terms (col 1 0 ∷ set) }))
    (pick : Row → Bool) (make : Row → Row) (params : Row) (old new : State) (inside : IsInside old)
    (same : (row : Row) → Has (old.now.trees slot.table.tree) row → passes terms params row ≡ pick row)
    (tied : (a b : Row) → Has (old.now.trees slot.table.tree) a → Has (old.now.trees slot.table.tree) b → rowid a ≡ rowid b
    → pick a ≡ pick b)
    (casts : (row : Row) → Has (old.now.trees slot.table.tree) row → cast_row slot.table (shows set params row) ≡ make row)
    (numbered : (row : Row) → rowid (make row) ≡ rowid row) where
  abbrev rows : List Row
  rows = old.now.trees slot.table.tree

  abbrev others : List Row
  others = filter (λ r. not (pick r)) rows

  abbrev cast : Row → Row
  cast r = cast_row slot.table (drop 1 r)

  abbrev show : Row → Row
  show = shows (col 1 0 ∷ set) params

  are_made : (answer : List Row) → IsPermutation (map show (filter pick rows)) answer
      → IsPermutation (map make (filter pick rows)) (map cast answer)
  are_made answer picked =
      let each : map cast (map show (filter pick rows)) ≡ map make (filter pick rows) =
      map_map cast show (filter pick rows)
      ∙ map_same (λ r. cast (show r)) make (filter pick rows) (λ row h. casts row (has_filtered pick rows row h).0) in
      subst (λ l. IsPermutation l (map cast answer)) each (IsPermutation-map cast (map show (filter pick rows)) answer picked)

  are_numbered : (made : List Row) → IsPermutation (map make (filter pick rows)) made → (row : Row) → Has made row
      → IsTrue (is_int (rowid row))
  are_numbered made are row h =
      let from = has_mapped make (filter pick rows) row (has_permuted (map make (filter pick rows)) made row are h) in
      let was = (has_filtered pick rows from.0 from.1).0 in
      subst (λ v. IsTrue (is_int v)) (sym (ap rowid from.2 ∙ numbered from.0)) ((own_rows slot is_slot sql plain old inside).numbered from.0 was)

  pub remakes : (result : Result ℕ Error) → ExecutesInside 0 sql params old new result
      → OnOk result (Changes (On slot (Remakes pick make)) old new)
  remakes (Err e) h = tt
  remakes (Ok count) h =
      let gave =
      updates sql slot.at slot.table is_slot.found plain slot.table.tree terms (col 1 0 ∷ set) is old new params count
      inside.ours.schema_is h.0 in
      let picked = subst (λ l. IsPermutation (map show l) gave.0) (filter_same (passes terms params) pick rows same) gave.1 in
      let made = map cast gave.0 in
      let are = are_made gave.0 picked in
      let left : without_all rows (ids_of gave.0) ≡ others = taken_out slot is_slot sql plain pick set params [] old inside gave.0 picked tied in
      let news = numbered_given (without_all rows (ids_of gave.0)) made in
      let fresh : are_fresh others made ≡ true = subst₂ (λ l n. are_fresh l n ≡ true) left news gave.2.applies.fresh in
      let now : new.now.trees slot.table.tree ≡ put_all others made = gave.2.applies.rows ∙ ap₂ put_all left news in
      let own = own_rows slot is_slot sql plain old inside in
      let kept = own_put_all slot.key made others (are_numbered made are) fresh (own_filtered (λ r. not (pick r)) slot.key rows own) in
      changed slot is_slot sql plain (Remakes pick make) _ old new refl inside h.1 gave.2
      (subst (AreOwn slot.key) (sym now) kept)
      (record { made = made; are = are; gained = subst (GainsAll made others) (sym now) (gains_all made others fresh) })

-- ---- a query of the keys of the rows that it picks

pub keys_shown : {V : Type 0} (slot : Slot) (is_slot : IsSlot slot) (sql : List ℕ) (project : List Term) (names : List (List ℕ))
    → Runs sql (selection slot.table.tree between project names) → (first last : ℤ) (old new : State) (items : V → List Row)
    (r : Result V Error) → IsInside old → IfOk r (λ v. ShowsInside sql (Int first ∷ Int last ∷ []) old new (items v))
    → IfOk r (λ v. Changes (Stays (λ kept. Finds (is_between first last) (shows project (Int first ∷ Int last ∷ [])) (slot.get kept) (items v))) old new)
keys_shown slot is_slot sql project names runs first last old new items (Err e) inside shown = tt
keys_shown slot is_slot sql project names runs first last old new items (Ok v) inside shown =
    let params = Int first ∷ Int last ∷ [] in
    let seen = shown.seen in
    let reads = shown.reads (selection slot.table.tree between project names) (is_command (understood desk_schema sql) _ runs.plain runs.is) in
    let own = own_rows slot is_slot sql runs.plain old inside in
    let found : Finds (is_between first last) (shows project params) (old.now.trees slot.table.tree) (items v) =
    finds_same (passes between params) (is_between first last) (shows project params) (old.now.trees slot.table.tree) (items v)
    (λ row h. passes_between first last [] row (own.numbered row h))
    (record { shown = plain_program slot.table.tree between project old.now.trees params (items v) reads.answer }) in
    record {
      seen = record {
        was_open = seen.was_open;
        is_open = seen.is_open;
        now_is = refl;
        committed_is = seen.committed_is;
        mode = seen.mode;
      };
      ours = subst IsOurs (sym seen.now_is) inside.ours;
      change = (
        ap (λ (d : Database). kept_in d.trees) seen.now_is,
        subst (λ l. Finds (is_between first last) (shows project params) l (items v)) (sym (is_slot.stands old.now.trees)) found,
      );
    }
