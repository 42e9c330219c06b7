-- What an UPDATE's query tells of the rows that it picked.
use Rattle.std.proofs.Common.{◌≡◌, ℕ, Bool, true, not, List, drop, [], ◌∷◌, filter, map, sym, ap, subst, ◌∙◌}
use Rattle.std.proofs.lemmas.List.Sorted.{IsPermutation-map}
use Rattle.std.specs.List.Sorted.{IsPermutation}
use Rattle.sqlite_value.specs.Order.{Row}
use Rattle.sqlite_sql.specs.Term.{Term, col}
use Rattle.sqlite_rules.specs.Calls.{ids_of}
use Rattle.sqlite_rules.specs.Cast.{cast_row}
use Rattle.sqlite_rules.specs.Edit.{id_in, without_all}
use Rattle.sqlite_rules.specs.Lists.{Has}
use Rattle.sqlite_rules.proofs.ListLemmas.{has_filtered}
use Rattle.sqlite_rules.proofs.ProbeLemmas.{has_mapped}
use Rattle.sqlite_trees.specs.Tree.{rowid}
use Rattle.sqlite.specs.Given.{IsPlain}
use Rattle.sqlite.specs.Listing.{understood}
use Rattle.sqlite.specs.State.{State}
use Rattle.store_sql_rows.specs.Schema.{desk_schema}
use Rattle.store_sql_rows.specs.Meanings.{shows}
use Rattle.store_sql_rows.specs.Ours.{IsInside}
use Rattle.store_sql_rows.specs.Slot.{Slot}
use Rattle.store_sql_rows.proofs.AnswerLemmas.{map_map}
use Rattle.store_sql_rows.proofs.RowLemmas.{deleted, has_permuted}
use Rattle.store_sql_rows.proofs.SlotLemmas.{IsSlot, own_rows}

module _ (slot : Slot) (is_slot : IsSlot slot) (sql : List ℕ) (plain : IsPlain (understood desk_schema sql)) (gone : Row → Bool)
    (set : List Term) (params cells : Row) (s : State) (inside : IsInside s) (answer : List Row)
    (picked : IsPermutation (map (shows (col 1 0 ∷ set) params) (filter gone (s.now.trees slot.table.tree))) answer) where
  abbrev rows : List Row
  rows = s.now.trees slot.table.tree

  abbrev show : Row → Row
  show = shows (col 1 0 ∷ set) params

  -- they are taken out by their numbers
  pub taken_out : ((a b : Row) → Has rows a → Has rows b → rowid a ≡ rowid b → gone a ≡ gone b)
      → without_all rows (ids_of answer) ≡ filter (λ r. not (gone r)) rows
  taken_out tied =
      let own = own_rows slot is_slot sql plain s inside in
      let number = λ (r : Row). rowid r ∷ [] in
      let outcome =
      subst (λ l. IsPermutation l (map number answer)) (map_map number show (filter gone rows))
      (IsPermutation-map number (map show (filter gone rows)) answer picked) in
      ap (without_all rows) (sym (map_map (λ r. id_in (rowid r)) number answer))
      ∙ deleted gone rows (map number answer) own.numbered tied outcome

  -- what a row of the answer is put in for
  pub origin : ((row : Row) → Has rows row → gone row ≡ true → cast_row slot.table (shows set params row) ≡ rowid row ∷ cells)
      → (a : Row) → Has answer a
      → (row : Row) × Has rows row × (gone row ≡ true) × (cast_row slot.table (drop 1 a) ≡ rowid row ∷ cells)
  origin made a h =
      let from = has_mapped show (filter gone rows) a (has_permuted (map show (filter gone rows)) answer a picked h) in
      let row = has_filtered gone rows from.0 from.1 in
      (from.0, row.0, row.1, ap (λ r. cast_row slot.table (drop 1 r)) from.2 ∙ made from.0 row.0 row.1)
