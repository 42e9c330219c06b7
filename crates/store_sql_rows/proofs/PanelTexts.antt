-- What the statements on the next numbers mean.
use Rattle.std.proofs.Common.{ℕ, List, [], ◌∷◌, codes, refl}
use Rattle.sqlite_value.specs.declared.value.Value.TheVariants.{Null, Text}
use Rattle.sqlite_schema.specs.declared.command.Command.TheVariants.{Insert, Update}
use Rattle.sqlite_schema.specs.declared.command.Source.TheVariants.{Values}
use Rattle.sqlite_sql.specs.declared.ops.CompareOp.TheVariants.{Ge}
use Rattle.sqlite_sql.specs.Term.{Term, lit, col}
use Rattle.sqlite.specs.Listing.{understood}
use Rattle.sqlite_tied.specs.Compute.{everything}
use Rattle.store_sql_rows.specs.Schema.{panel_tree}
use Rattle.store_sql_rows.specs.Meanings.{compared_with, given, least, plain_query, selection}
use Rattle.store_sql_rows.specs.Failing.{IsSure}
use Rattle.store_sql_rows.proofs.FailLemmas.{sure}
use Rattle.store_sql_rows.proofs.Texts.{Runs}

abbrev pub add_text : List ℕ
add_text = codes "INSERT INTO panel (name, next) VALUES (?1, ?2)"

pub add_runs : Runs add_text
    (Insert 1 (Values (lit Null ∷ col 0 0 ∷ col 0 1 ∷ []) 3))
unfolding understood everything
add_runs = record { is = refl; plain = (refl, refl); unlisted = refl }

abbrev pub set_text : List ℕ
set_text = codes "UPDATE panel SET next = ?2 WHERE name = ?1"

-- the number of the row, and its cells after it
abbrev pub cells_set : List Term
cells_set = col 1 0 ∷ col 1 1 ∷ col 0 1 ∷ []

pub set_runs : Runs set_text
    (Update 1 (record { lets = []; body = plain_query panel_tree (given 1 0 ∷ []) (col 1 0 ∷ cells_set) }))
unfolding understood everything
set_runs = record { is = refl; plain = (refl, refl); unlisted = refl }

abbrev pub set_at_text : List ℕ
set_at_text = codes "UPDATE panel SET next = ?2 WHERE rowid = ?3 AND name = ?1"

pub set_at_runs : Runs set_at_text
    (Update 1 (record { lets = []; body = plain_query panel_tree (given 0 2 ∷ given 1 0 ∷ []) (col 1 0 ∷ cells_set) }))
unfolding understood everything
set_at_runs = record { is = refl; plain = (refl, refl); unlisted = refl }

-- the queries

abbrev pub find_text : List ℕ
find_text = codes "SELECT next, rowid FROM panel WHERE name = ?1"

pub find_runs : Runs find_text
    (selection panel_tree (given 1 0 ∷ []) (col 1 2 ∷ col 1 0 ∷ []) (codes "next" ∷ codes "rowid" ∷ []))
unfolding understood everything
find_runs = record { is = refl; plain = (refl, refl); unlisted = refl }

pub find_sure : (panel : List ℕ) → IsSure find_text (Text panel ∷ [])
unfolding understood everything
find_sure panel = sure find_runs (Text panel ∷ []) (refl, refl, refl) refl refl panel_tree refl

abbrev pub next_name_text : List ℕ
next_name_text = codes "SELECT name FROM panel WHERE name >= ?1 ORDER BY name LIMIT 1"

pub next_name_runs : Runs next_name_text
    (least panel_tree (compared_with Ge 1 0 ∷ []) 1 (codes "name" ∷ []))
unfolding understood everything
next_name_runs = record { is = refl; plain = (refl, refl); unlisted = refl }

pub next_name_sure : (from : List ℕ) → IsSure next_name_text (Text from ∷ [])
unfolding understood everything
next_name_sure from = sure next_name_runs (Text from ∷ []) (refl, refl, refl) refl refl panel_tree refl
