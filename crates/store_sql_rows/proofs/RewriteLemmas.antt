-- What an UPDATE of the rows of a key makes of one of the keyed tables.
use Rattle.std.proofs.Common.{◌≡◌, inl, inr, ℕ, zero, suc, ℤ, Bool, true, false, not, ◌&&◌, List, drop, length, [], ◌∷◌, filter, map, Ok, Err, Result, refl, sym, ap, ap₂, subst, subst₂, ◌∙◌, IfOk, true≢false}
use Rattle.std.proofs.lemmas.Bool.{and_parts}
use Rattle.std.specs.List.Sorted.{IsPermutation}
use Rattle.sqlite_value.specs.declared.value.Value.TheVariants.{Int}
use Rattle.sqlite_value.specs.Order.{Row, column, value_cmp}
use Rattle.std.specs.Ordering.{is_eq}
use Rattle.sqlite_schema.specs.declared.command.Command.TheVariants.{Update}
use Rattle.sqlite_sql.specs.Term.{Term, col}
use Rattle.sqlite_rules.specs.declared.error.Rowids.TheVariants.{Given}
use Rattle.sqlite_rules.specs.Calls.{ids_of}
use Rattle.sqlite_rules.specs.Cast.{cast_row}
use Rattle.sqlite_rules.specs.Edit.{are_fresh, edit_of, is_taken, put_all, without_all}
use Rattle.sqlite_rules.specs.Lists.{Has}
use Rattle.sqlite_rules.proofs.PlaceLemmas.{given as numbered_given}
use Rattle.sqlite_rules.proofs.TableLemmas.{has_put}
use Rattle.sqlite_trees.specs.Tree.{put_row, rowid}
use Rattle.sqlite.specs.declared.error.Error.{Error}
use Rattle.sqlite.specs.Given.{IsPlain}
use Rattle.sqlite.specs.Listing.{understood}
use Rattle.sqlite.specs.State.{ExecutesInside, Shows, State}
use Rattle.sqlite.proofs.Callers.{command_of}
use Rattle.store_sql_rows.specs.Schema.{desk_schema}
use Rattle.store_sql_rows.specs.Meanings.{passes, plain_query, shows}
use Rattle.store_sql_rows.specs.Ours.{AreOwn, Changes, IsInside, Rewrites, RewritesAt, at_number}
use Rattle.store_sql_rows.specs.Slot.{On, Slot}
use Rattle.store_sql_rows.proofs.RowLemmas.{by_both, filter_same, own_filtered, own_put, put_apart, tied_taken}
use Rattle.store_sql_rows.proofs.PickedLemmas.{origin, taken_out}
use Rattle.store_sql_rows.proofs.SlotLemmas.{IsSlot, changed, not_true, own_rows}
use Rattle.store_sql_rows.proofs.WriteLemmas.{Ran, updates}
use Rattle.store_sql_rows.specs.Stored.{HasPut}

-- the rows of a key, of which an UPDATE makes these cells
pub record Aims (slot : Slot) (gone : Row → Bool) (set : List Term) (params cells : Row) (rows : List Row) : Type 0 where
  pub by_key : (a b : Row) → map (column a) slot.key ≡ map (column b) slot.key → gone a ≡ gone b
  pub one : (a b : Row) → Has rows a → Has rows b → gone a ≡ true → gone b ≡ true → rowid a ≡ rowid b
  pub made : (row : Row) → Has rows row → gone row ≡ true → cast_row slot.table (shows set params row) ≡ rowid row ∷ cells

-- the same of the rows that a statement picks
record Picks (slot : Slot) (gone : Row → Bool) (set : List Term) (params cells : Row) (rows : List Row) : Type 0 where
  tied : (a b : Row) → Has rows a → Has rows b → rowid a ≡ rowid b → gone a ≡ gone b
  one : (a b : Row) → Has rows a → Has rows b → gone a ≡ true → gone b ≡ true → rowid a ≡ rowid b
  made : (row : Row) → Has rows row → gone row ≡ true → cast_row slot.table (shows set params row) ≡ rowid row ∷ cells

-- a row that was picked, where so many were
abbrev IsPicked : (Row → Bool) → ℕ → List Row → Type 0
IsPicked gone zero rows = Unit {0}
IsPicked gone (suc more) rows = (row : Row) × Has rows row × (gone row ≡ true)

module _ (slot : Slot) (is_slot : IsSlot slot) (sql : List ℕ) (plain : IsPlain (understood desk_schema sql)) (gone : Row → Bool)
    (set : List Term) (params cells : Row)
    (old new : State) (inside : IsInside old) (seen : Shows old new new.now old.committed true)
    (picks : Picks slot gone set params cells (old.now.trees slot.table.tree))
    (Becomes : ℕ → List Row → List Row → Type 0)
    (become : (count : ℕ) (now : List Row) → Rewrites gone cells count (old.now.trees slot.table.tree) now
    → IsPicked gone count (old.now.trees slot.table.tree) → Becomes count (old.now.trees slot.table.tree) now) where
  abbrev rows : List Row
  rows = old.now.trees slot.table.tree

  abbrev others : List Row
  others = filter (λ r. not (gone r)) rows

  abbrev show : Row → Row
  show = shows (col 1 0 ∷ set) params

  left_of : (answer : List Row) → IsPermutation (map show (filter gone rows)) answer → without_all rows (ids_of answer) ≡ others
  left_of answer picked = taken_out slot is_slot sql plain gone set params cells old inside answer picked picks.tied

  from_of : (answer : List Row) (a : Row) → IsPermutation (map show (filter gone rows)) answer → Has answer a
      → (row : Row) × Has rows row × (gone row ≡ true) × (cast_row slot.table (drop 1 a) ≡ rowid row ∷ cells)
  from_of answer a picked = origin slot is_slot sql plain gone set params cells old inside answer picked picks.made a

  -- the rows by what the UPDATE answered
  turned : (count : ℕ) (answer : List Row) → IsPermutation (map show (filter gone rows)) answer → count ≡ length answer
      → Ran old new (edit_of old.now.trees slot.table (ids_of answer) Given 1 answer)
      → Changes (On slot (Becomes count)) old new
  turned count [] picked counted ran =
      let own = own_rows slot is_slot sql plain old inside in
      let now : new.now.trees slot.table.tree ≡ rows = ran.applies.rows in
      subst (λ n. Changes (On slot (Becomes n)) old new) (sym counted)
      (changed slot is_slot sql plain (Becomes 0) _ old new refl inside seen ran (subst (AreOwn slot.key) (sym now) own)
      (become 0 (new.now.trees slot.table.tree) (left_of [] picked, now) tt))
  turned count (a ∷ []) picked counted ran =
      let own = own_rows slot is_slot sql plain old inside in
      let from = from_of (a ∷ []) a picked (inl refl) in
      let row = rowid from.0 ∷ cells in
      let left = left_of (a ∷ []) picked in
      let news = numbered_given (without_all rows (ids_of (a ∷ []))) (cast_row slot.table (drop 1 a) ∷ []) ∙ ap (λ r. r ∷ []) from.3 in
      let free : is_taken others row ≡ false =
      not_true _ (and_parts _ _ (subst₂ (λ l n. are_fresh l n ≡ true) left news ran.applies.fresh)).0 in
      let now : new.now.trees slot.table.tree ≡ put_row row others = ran.applies.rows ∙ ap₂ put_all left news in
      let more = put_apart row others free in
      let has : HasPut row gone rows (new.now.trees slot.table.tree) =
      record { before = more.before; after = more.after; left = more.was; is = now ∙ more.is } in
      let kept = own_put row slot.key others (own.numbered from.0 from.1) free (own_filtered (λ r. not (gone r)) slot.key rows own) in
      subst (λ n. Changes (On slot (Becomes n)) old new) (sym counted)
      (changed slot is_slot sql plain (Becomes 1) _ old new refl inside seen ran
      (subst (AreOwn slot.key) (sym now) kept)
      (become 1 (new.now.trees slot.table.tree) (rowid from.0, has) (from.0, from.1, from.2)))
  turned count (a ∷ b ∷ more) picked counted ran =
      let answer = a ∷ b ∷ more in
      let first = from_of answer a picked (inl refl) in
      let second = from_of answer b picked (inr (inl refl)) in
      let one = rowid first.0 ∷ cells in
      let other = rowid second.0 ∷ cells in
      let rest = map (λ r. cast_row slot.table (drop 1 r)) more in
      let news =
      numbered_given (without_all rows (ids_of answer)) (map (λ r. cast_row slot.table (drop 1 r)) answer)
      ∙ ap₂ (λ x y. x ∷ y ∷ rest) first.3 second.3 in
      let fresh = subst₂ (λ l n. are_fresh l n ≡ true) (left_of answer picked) news ran.applies.fresh in
      let free = not_true _ (and_parts _ _ (and_parts _ _ fresh).1).0 in
      let taken =
      tied_taken other (put_row one others) one (has_put one others) (picks.one first.0 second.0 first.1 second.1 first.2 second.2) in
      absurd (true≢false (sym taken ∙ free))

module _ (slot : Slot) (is_slot : IsSlot slot) (sql : List ℕ) (plain : IsPlain (understood desk_schema sql)) (terms : List Term)
    (set : List Term)
    (is : command_of (understood desk_schema sql)
    ≡ Update slot.at (record { lets = []; body = plain_query slot.table.tree terms (col 1 0 ∷ set) })) where
  -- a statement that changes the rows that it picks, of which there is one at most
  becomes : (gone : Row → Bool) (old new : State) (params cells : Row) (result : Result ℕ Error)
      → ((row : Row) → Has (old.now.trees slot.table.tree) row → passes terms params row ≡ gone row)
      → Picks slot gone set params cells (old.now.trees slot.table.tree)
      → (Becomes : ℕ → List Row → List Row → Type 0)
      → ((count : ℕ) (now : List Row) → Rewrites gone cells count (old.now.trees slot.table.tree) now
      → IsPicked gone count (old.now.trees slot.table.tree) → Becomes count (old.now.trees slot.table.tree) now)
      → IsInside old → ExecutesInside 0 sql params old new result
      → IfOk result (λ count. Changes (On slot (Becomes count)) old new)
  becomes gone old new params cells (Err e) same picks Becomes become inside h = tt
  becomes gone old new params cells (Ok count) same picks Becomes become inside h =
      let rows = old.now.trees slot.table.tree in
      let show = shows (col 1 0 ∷ set) params in
      let gave =
      updates sql slot.at slot.table is_slot.found plain slot.table.tree terms (col 1 0 ∷ set) is old new params count
      inside.ours.schema_is h.0 in
      let picked = subst (λ l. IsPermutation (map show l) gave.0) (filter_same (passes terms params) gone rows same) gave.1 in
      turned slot is_slot sql plain gone set params cells old new inside h.1 picks Becomes become count gave.0 picked gave.3 gave.2

  module _ (gone : Row → Bool) (old new : State) (params cells : Row) (result : Result ℕ Error)
      (aims : Aims slot gone set params cells (old.now.trees slot.table.tree)) (inside : IsInside old)
      (ran : ExecutesInside 0 sql params old new result) where
    abbrev kept : List Row
    kept = old.now.trees slot.table.tree

    tied_by_key : (a b : Row) → Has kept a → Has kept b → rowid a ≡ rowid b → gone a ≡ gone b
    tied_by_key a b ha hb tied = aims.by_key a b ((own_rows slot is_slot sql plain old inside).apart a b ha hb tied)

    -- a statement that changes the rows of a key
    pub rewrites : ((row : Row) → Has kept row → passes terms params row ≡ gone row)
        → IfOk result (λ count. Changes (On slot (Rewrites gone cells count)) old new)
    rewrites same =
        becomes gone old new params cells result same (record { tied = tied_by_key; one = aims.one; made = aims.made })
        (Rewrites gone cells) (λ count now rewritten picked. rewritten) inside ran

    -- the row of a number, where it is of the key
    module _ (number : ℤ) where
      abbrev is_it : Row → Bool
      is_it = at_number number gone

      tied_at : (a b : Row) → Has kept a → Has kept b → rowid a ≡ rowid b → is_it a ≡ is_it b
      tied_at a b ha hb tied =
          ap₂ (λ x y. x && y) (ap (λ v. is_eq (value_cmp v (Int number))) tied) (tied_by_key a b ha hb tied)

      of_key : (row : Row) → is_it row ≡ true → gone row ≡ true
      of_key row is = (and_parts _ _ is).1

      -- where a row of that number was of the key, the rows of the key are that row
      alike : (row : Row) → Has kept row → is_it row ≡ true
          → filter (λ r. not (gone r)) kept ≡ filter (λ r. not (is_it r)) kept
      alike row h is =
          filter_same (λ r. not (gone r)) (λ r. not (is_it r)) kept
          (λ r hr. ap not (by_both (gone r) (is_it r)
          (λ own. tied_at r row hr h (aims.one r row hr h own (of_key row is)) ∙ is) (of_key r)))

      by_number : (count : ℕ) (now : List Row) → Rewrites is_it cells count kept now → IsPicked is_it count kept
          → RewritesAt number gone cells count kept now
      by_number zero now rewritten picked = rewritten
      by_number (suc more) now rewritten picked =
          let has = rewritten.1 in
          let own : HasPut (rewritten.0 ∷ cells) gone kept now =
          record { before = has.before; after = has.after; left = alike picked.0 picked.1 picked.2 ∙ has.left; is = has.is } in
          (picked.0, picked.1, picked.2, (rewritten.0, own))

      -- a statement that changes the row of a number, where it is of a key
      pub rewrites_at : ((row : Row) → Has kept row → passes terms params row ≡ is_it row)
          → IfOk result (λ count. Changes (On slot (RewritesAt number gone cells count)) old new)
      rewrites_at same =
          becomes is_it old new params cells result same
          (record {
            tied = tied_at;
            one = λ a b ha hb is_a is_b. aims.one a b ha hb (of_key a is_a) (of_key b is_b);
            made = λ row h is. aims.made row h (of_key row is);
          })
          (RewritesAt number gone cells) by_number inside ran
