-- What the statements on the shown values mean.
use Rattle.std.proofs.Common.{ℕ, List, [], ◌∷◌, codes, refl}
use Rattle.sqlite_value.specs.declared.value.Value.TheVariants.{Null, Text}
use Rattle.sqlite_schema.specs.declared.command.Command.TheVariants.{Insert, Update}
use Rattle.sqlite_schema.specs.declared.command.Source.TheVariants.{Values}
use Rattle.sqlite_sql.specs.declared.ops.CompareOp.TheVariants.{Ge}
use Rattle.sqlite_sql.specs.Term.{Term, lit, col}
use Rattle.sqlite.specs.Listing.{understood}
use Rattle.sqlite_tied.specs.Compute.{everything}
use Rattle.store_sql_rows.specs.Schema.{shown_tree}
use Rattle.store_sql_rows.specs.Meanings.{compared_with, deletion, given, least, plain_query, selection}
use Rattle.store_sql_rows.specs.Failing.{IsSure}
use Rattle.store_sql_rows.proofs.FailLemmas.{sure}
use Rattle.store_sql_rows.proofs.Texts.{Runs, between}

abbrev pub clear_text : List ℕ
clear_text = codes "DELETE FROM shown WHERE schedule = ?1"

abbrev pub add_text : List ℕ
add_text = codes "INSERT INTO shown (schedule, value) VALUES (?1, ?2)"

pub clear_runs : Runs clear_text
    (deletion 4 shown_tree (given 1 0 ∷ []))
unfolding understood everything
clear_runs = record { is = refl; plain = (refl, refl); unlisted = refl }

pub add_runs : Runs add_text
    (Insert 4 (Values (lit Null ∷ col 0 0 ∷ col 0 1 ∷ []) 3))
unfolding understood everything
add_runs = record { is = refl; plain = (refl, refl); unlisted = refl }

abbrev pub set_text : List ℕ
set_text = codes "UPDATE shown SET value = ?2 WHERE schedule = ?1"

-- the number of the row, and its cells after it
abbrev pub cells_set : List Term
cells_set = col 1 0 ∷ col 1 1 ∷ col 0 1 ∷ []

pub set_runs : Runs set_text
    (Update 4 (record { lets = []; body = plain_query shown_tree (given 1 0 ∷ []) (col 1 0 ∷ cells_set) }))
unfolding understood everything
set_runs = record { is = refl; plain = (refl, refl); unlisted = refl }

abbrev pub set_at_text : List ℕ
set_at_text = codes "UPDATE shown SET value = ?2 WHERE rowid = ?3 AND schedule = ?1"

pub set_at_runs : Runs set_at_text
    (Update 4 (record { lets = []; body = plain_query shown_tree (given 0 2 ∷ given 1 0 ∷ []) (col 1 0 ∷ cells_set) }))
unfolding understood everything
set_at_runs = record { is = refl; plain = (refl, refl); unlisted = refl }

abbrev pub set_between_text : List ℕ
set_between_text = codes "UPDATE shown SET value = ?3 WHERE rowid >= ?1 AND rowid <= ?2"

-- the number of the row, and its cells after it
abbrev pub cells_set_between : List Term
cells_set_between = col 1 0 ∷ col 1 1 ∷ col 0 2 ∷ []

pub set_between_runs : Runs set_between_text
    (Update 4 (record { lets = []; body = plain_query shown_tree between (col 1 0 ∷ cells_set_between) }))
unfolding understood everything
set_between_runs = record { is = refl; plain = (refl, refl); unlisted = refl }

-- the queries

abbrev pub keys_between_text : List ℕ
keys_between_text = codes "SELECT schedule FROM shown WHERE rowid >= ?1 AND rowid <= ?2"

pub keys_between_runs : Runs keys_between_text
    (selection shown_tree between (col 1 1 ∷ []) (codes "schedule" ∷ []))
unfolding understood everything
keys_between_runs = record { is = refl; plain = (refl, refl); unlisted = refl }

abbrev pub find_text : List ℕ
find_text = codes "SELECT value, rowid FROM shown WHERE schedule = ?1"

pub find_runs : Runs find_text
    (selection shown_tree (given 1 0 ∷ []) (col 1 2 ∷ col 1 0 ∷ []) (codes "value" ∷ codes "rowid" ∷ []))
unfolding understood everything
find_runs = record { is = refl; plain = (refl, refl); unlisted = refl }

pub find_sure : (schedule : List ℕ) → IsSure find_text (Text schedule ∷ [])
unfolding understood everything
find_sure schedule = sure find_runs (Text schedule ∷ []) (refl, refl, refl) refl refl shown_tree refl

abbrev pub next_name_text : List ℕ
next_name_text = codes "SELECT schedule FROM shown WHERE schedule >= ?1 ORDER BY schedule LIMIT 1"

pub next_name_runs : Runs next_name_text
    (least shown_tree (compared_with Ge 1 0 ∷ []) 1 (codes "schedule" ∷ []))
unfolding understood everything
next_name_runs = record { is = refl; plain = (refl, refl); unlisted = refl }

pub next_name_sure : (from : List ℕ) → IsSure next_name_text (Text from ∷ [])
unfolding understood everything
next_name_sure from = sure next_name_runs (Text from ∷ []) (refl, refl, refl) refl refl shown_tree refl
