-- What an UPDATE that gives a row another key makes of one of the keyed tables.
use Rattle.std.proofs.Common.{◌≡◌, inl, inr, ℕ, Bool, true, false, not, List, drop, length, [], ◌∷◌, filter, map, Ok, Err, Result, refl, sym, ap, subst, subst₂, ◌∙◌, IfOk, IsTrue, true≢false}
use Rattle.std.proofs.lemmas.Bool.{and_parts}
use Rattle.std.specs.List.Sorted.{IsPermutation}
use Rattle.sqlite_value.specs.declared.value.Value.{Value}
use Rattle.sqlite_value.specs.Order.{Row, column}
use Rattle.sqlite_schema.specs.declared.command.Command.TheVariants.{Update}
use Rattle.sqlite_sql.specs.Term.{Term, col}
use Rattle.sqlite_rules.specs.declared.error.Rowids.TheVariants.{Given}
use Rattle.sqlite_rules.specs.Calls.{ids_of}
use Rattle.sqlite_rules.specs.Cast.{cast_row}
use Rattle.sqlite_rules.specs.Edit.{are_fresh, edit_of, is_taken, put_all, without_all}
use Rattle.sqlite_rules.specs.Lists.{Has}
use Rattle.sqlite_rules.proofs.PlaceLemmas.{given as numbered_given}
use Rattle.sqlite_rules.proofs.ProbeLemmas.{has_mapped}
use Rattle.sqlite_rules.proofs.TableLemmas.{has_put, put_all_adds}
use Rattle.sqlite_trees.specs.Tree.{put_row, rowid}
use Rattle.sqlite_trees.specs.View.{is_int}
use Rattle.sqlite.specs.declared.error.Error.{Error}
use Rattle.sqlite.specs.Effect.{Database}
use Rattle.sqlite.specs.Given.{IsPlain}
use Rattle.sqlite.specs.Listing.{understood}
use Rattle.sqlite.specs.State.{ExecutesInside, Shows, State}
use Rattle.sqlite.proofs.Callers.{command_of}
use Rattle.store_sql_rows.specs.Schema.{desk_schema}
use Rattle.store_sql_rows.specs.Meanings.{passes, plain_query, shows}
use Rattle.store_sql_rows.specs.Ours.{AreOwn, Changes, Exchanges, HasOneMore, IsInside, IsOurs}
use Rattle.store_sql_rows.specs.Slot.{On, Slot}
use Rattle.store_sql_rows.proofs.AddLemmas.{none_of_key}
use Rattle.store_sql_rows.proofs.RowLemmas.{filter_same, own_filtered, own_put, put_apart, tied_taken}
use Rattle.store_sql_rows.proofs.PickedLemmas.{origin, taken_out}
use Rattle.store_sql_rows.proofs.SlotLemmas.{IsSlot, changed, not_true, own_rows}
use Rattle.store_sql_rows.proofs.WriteLemmas.{Ran, updates}

-- rows that no other has the number of stay apart
pub own_put_all : (key : List ℕ) (news rows : List Row) → ((row : Row) → Has news row → IsTrue (is_int (rowid row)))
    → are_fresh rows news ≡ true → AreOwn key rows → AreOwn key (put_all rows news)
own_put_all key [] rows numbered fresh own = own
own_put_all key (n ∷ news) rows numbered fresh own =
    let parts = and_parts _ _ fresh in
    own_put_all key news (put_row n rows) (λ row h. numbered row (inr h)) parts.1
    (own_put n key rows (numbered n (inl refl)) (not_true _ parts.0) own)

-- rows that pass, of which an UPDATE makes these cells, whose key is another
pub record Exchanged (slot : Slot) (gone key : Row → Bool) (set : List Term) (params cells : Row) (rows : List Row) : Type 0 where
  pub by_key : (a b : Row) → map (column a) slot.key ≡ map (column b) slot.key → gone a ≡ gone b
  pub made : (row : Row) → Has rows row → gone row ≡ true → cast_row slot.table (shows set params row) ≡ rowid row ∷ cells
  pub own : (id : Value) → key (id ∷ cells) ≡ true
  pub one : (db : Database) → IsOurs db → (a b : Row) → Has (db.trees slot.table.tree) a → Has (db.trees slot.table.tree) b
      → key a ≡ true → key b ≡ true → rowid a ≡ rowid b

module _ (slot : Slot) (is_slot : IsSlot slot) (sql : List ℕ) (plain : IsPlain (understood desk_schema sql)) (gone key : Row → Bool)
    (set : List Term) (params cells : Row)
    (old new : State) (inside : IsInside old) (seen : Shows old new new.now old.committed true)
    (it : Exchanged slot gone key set params cells (old.now.trees slot.table.tree)) where
  abbrev rows : List Row
  rows = old.now.trees slot.table.tree

  abbrev now : List Row
  now = new.now.trees slot.table.tree

  abbrev others : List Row
  others = filter (λ r. not (gone r)) rows

  abbrev show : Row → Row
  show = shows (col 1 0 ∷ set) params

  abbrev cast : Row → Row
  cast r = cast_row slot.table (drop 1 r)

  tied : (a b : Row) → Has rows a → Has rows b → rowid a ≡ rowid b → gone a ≡ gone b
  tied a b ha hb same = it.by_key a b ((own_rows slot is_slot sql plain old inside).apart a b ha hb same)

  left_of : (answer : List Row) → IsPermutation (map show (filter gone rows)) answer → without_all rows (ids_of answer) ≡ others
  left_of answer picked = taken_out slot is_slot sql plain gone set params cells old inside answer picked tied

  from_of : (answer : List Row) (a : Row) → IsPermutation (map show (filter gone rows)) answer → Has answer a
      → (row : Row) × Has rows row × (gone row ≡ true) × (cast a ≡ rowid row ∷ cells)
  from_of answer a picked = origin slot is_slot sql plain gone set params cells old inside answer picked it.made a

  numbered : (answer : List Row) → IsPermutation (map show (filter gone rows)) answer → (row : Row) → Has (map cast answer) row
      → IsTrue (is_int (rowid row))
  numbered answer picked row h =
      let from = has_mapped cast answer row h in
      let was = from_of answer from.0 picked from.1 in
      subst (λ (r : Row). IsTrue (is_int (rowid r))) (sym (from.2 ∙ was.3))
      ((own_rows slot is_slot sql plain old inside).numbered was.0 was.1)

  -- what was put in, and that the rows are ours still
  record Became (answer : List Row) : Type 0 where
    fresh : are_fresh others (map cast answer) ≡ true
    is : now ≡ put_all others (map cast answer)
    whole : Changes (On slot (λ was is. Unit {0})) old new

  became : (answer : List Row) → IsPermutation (map show (filter gone rows)) answer
      → Ran old new (edit_of old.now.trees slot.table (ids_of answer) Given 1 answer) → Became answer
  became answer picked ran =
      let left = left_of answer picked in
      let news = numbered_given (without_all rows (ids_of answer)) (map cast answer) in
      let fresh = subst₂ (λ l n. are_fresh l n ≡ true) left news ran.applies.fresh in
      let is : now ≡ put_all others (map cast answer) =
      ran.applies.rows ∙ ap (put_all (without_all rows (ids_of answer))) news ∙ ap (λ l. put_all l (map cast answer)) left in
      let own =
      own_put_all slot.key (map cast answer) others (numbered answer picked) fresh
      (own_filtered (λ r. not (gone r)) slot.key rows (own_rows slot is_slot sql plain old inside)) in
      record {
        fresh = fresh;
        is = is;
        whole = changed slot is_slot sql plain (λ was is. Unit {0}) _ old new refl inside seen ran (subst (AreOwn slot.key) (sym is) own) tt;
      }

  -- the change, with what became of the rows of the table
  so_far : (Becomes : List Row → List Row → Type 0) → Changes (On slot (λ was is. Unit {0})) old new → Becomes rows now
      → Changes (On slot Becomes) old new
  so_far Becomes whole become =
      record {
        seen = whole.seen;
        ours = whole.ours;
        change = record {
          others = whole.change.others;
          rows = subst₂ Becomes (sym (is_slot.stands old.now.trees)) (sym (is_slot.stands new.now.trees)) become;
        };
      }

  exchanged : (count : ℕ) (answer : List Row) → IsPermutation (map show (filter gone rows)) answer → count ≡ length answer
      → Ran old new (edit_of old.now.trees slot.table (ids_of answer) Given 1 answer)
      → Changes (On slot (Exchanges gone key cells count)) old new
  exchanged count [] picked counted ran =
      let all = became [] picked ran in
      let left = left_of [] picked in
      subst (λ n. Changes (On slot (Exchanges gone key cells n)) old new) (sym counted)
      (so_far (Exchanges gone key cells 0) all.whole (left, all.is ∙ sym left))
  exchanged count (a ∷ []) picked counted ran =
      let all = became (a ∷ []) picked ran in
      let from = from_of (a ∷ []) a picked (inl refl) in
      let row = rowid from.0 ∷ cells in
      let free : is_taken others row ≡ false =
      subst (λ r. is_taken others r ≡ false) from.3 (not_true _ (and_parts _ _ all.fresh).0) in
      let is : now ≡ put_row row others = all.is ∙ ap (λ r. put_row r others) from.3 in
      let more = subst (HasOneMore row others) (sym is) (put_apart row others free) in
      let none = none_of_key key row others now more free (it.own (rowid from.0)) (it.one new.now all.whole.ours) in
      subst (λ n. Changes (On slot (Exchanges gone key cells n)) old new) (sym counted)
      (so_far (Exchanges gone key cells 1) all.whole
      (others, refl, (none, record { id = rowid from.0; free = free; more = more })))
  exchanged count (a ∷ b ∷ more) picked counted ran =
      let answer = a ∷ b ∷ more in
      let all = became answer picked ran in
      let first = from_of answer a picked (inl refl) in
      let second = from_of answer b picked (inr (inl refl)) in
      let one = rowid first.0 ∷ cells in
      let other = rowid second.0 ∷ cells in
      let here : (r : Row) → Has (map cast answer) r → Has now r =
      λ r h. subst (λ l. Has l r) (sym all.is) (put_all_adds (map cast answer) others r all.fresh h) in
      let same =
      it.one new.now all.whole.ours one other
      (here one (inl (sym first.3))) (here other (inr (inl (sym second.3))))
      (it.own (rowid first.0)) (it.own (rowid second.0)) in
      let later : is_taken (put_row (cast a) others) (cast b) ≡ false = not_true _ (and_parts _ _ (and_parts _ _ all.fresh).1).0 in
      let free = subst₂ (λ x y. is_taken (put_row x others) y ≡ false) first.3 second.3 later in
      let taken = tied_taken other (put_row one others) one (has_put one others) same in
      absurd (true≢false (sym taken ∙ free))

module _ (slot : Slot) (is_slot : IsSlot slot) (sql : List ℕ) (plain : IsPlain (understood desk_schema sql)) (terms : List Term)
    (set : List Term)
    (is : command_of (understood desk_schema sql)
    ≡ Update slot.at (record { lets = []; body = plain_query slot.table.tree terms (col 1 0 ∷ set) })) where
  -- a statement that gives the rows that pass another key, which one row at most has
  pub exchanges : (gone key : Row → Bool) (old new : State) (params cells : Row) (result : Result ℕ Error)
      → ((row : Row) → Has (old.now.trees slot.table.tree) row → passes terms params row ≡ gone row)
      → Exchanged slot gone key set params cells (old.now.trees slot.table.tree)
      → IsInside old → ExecutesInside 0 sql params old new result
      → IfOk result (λ count. Changes (On slot (Exchanges gone key cells count)) old new)
  exchanges gone key old new params cells (Err e) same it inside h = tt
  exchanges gone key old new params cells (Ok count) same it inside h =
      let rows = old.now.trees slot.table.tree in
      let show = shows (col 1 0 ∷ set) params in
      let gave =
      updates sql slot.at slot.table is_slot.found plain slot.table.tree terms (col 1 0 ∷ set) is old new params count
      inside.ours.schema_is h.0 in
      let picked = subst (λ l. IsPermutation (map show l) gave.0) (filter_same (passes terms params) gone rows same) gave.1 in
      exchanged slot is_slot sql plain gone key set params cells old new inside h.1 it count gave.0 picked gave.3 gave.2
