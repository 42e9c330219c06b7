-- What the statements on the places mean.
use Rattle.std.proofs.Common.{ℕ, List, [], ◌∷◌, codes, refl}
use Rattle.sqlite_value.specs.declared.value.Value.TheVariants.{Null, Text}
use Rattle.sqlite_schema.specs.declared.command.Command.TheVariants.{Insert, Update}
use Rattle.sqlite_schema.specs.declared.command.Source.TheVariants.{Values}
use Rattle.sqlite_sql.specs.declared.ops.CompareOp.TheVariants.{Ge}
use Rattle.sqlite_sql.specs.Term.{Term, lit, col}
use Rattle.sqlite.specs.Listing.{understood}
use Rattle.sqlite_tied.specs.Compute.{everything}
use Rattle.store_sql_rows.specs.Schema.{place_tree}
use Rattle.store_sql_rows.specs.Meanings.{compared_with, deletion, given, least, plain_query, selection}
use Rattle.store_sql_rows.specs.Failing.{IsSure}
use Rattle.store_sql_rows.proofs.FailLemmas.{sure}
use Rattle.store_sql_rows.proofs.Texts.{Runs, between}

abbrev pub clear_text : List ℕ
clear_text = codes "DELETE FROM place WHERE point = ?1 AND priority = ?2"

abbrev pub add_text : List ℕ
add_text = codes "INSERT INTO place (point, priority, value) VALUES (?1, ?2, ?3)"

pub clear_runs : Runs clear_text
    (deletion 3 place_tree (given 1 0 ∷ given 2 1 ∷ []))
unfolding understood everything
clear_runs = record { is = refl; plain = (refl, refl); unlisted = refl }

pub add_runs : Runs add_text
    (Insert 3 (Values (lit Null ∷ col 0 0 ∷ col 0 1 ∷ col 0 2 ∷ []) 4))
unfolding understood everything
add_runs = record { is = refl; plain = (refl, refl); unlisted = refl }

abbrev pub set_text : List ℕ
set_text = codes "UPDATE place SET value = ?3 WHERE point = ?1 AND priority = ?2"

-- the number of the row, and its cells after it
abbrev pub cells_set : List Term
cells_set = col 1 0 ∷ col 1 1 ∷ col 1 2 ∷ col 0 2 ∷ []

pub set_runs : Runs set_text
    (Update 3 (record { lets = []; body = plain_query place_tree (given 1 0 ∷ given 2 1 ∷ []) (col 1 0 ∷ cells_set) }))
unfolding understood everything
set_runs = record { is = refl; plain = (refl, refl); unlisted = refl }

abbrev pub set_at_text : List ℕ
set_at_text = codes "UPDATE place SET value = ?3 WHERE rowid = ?4 AND point = ?1 AND priority = ?2"

pub set_at_runs : Runs set_at_text
    (Update 3 (record { lets = []; body = plain_query place_tree (given 0 3 ∷ given 1 0 ∷ given 2 1 ∷ []) (col 1 0 ∷ cells_set) }))
unfolding understood everything
set_at_runs = record { is = refl; plain = (refl, refl); unlisted = refl }

abbrev pub set_between_text : List ℕ
set_between_text = codes "UPDATE place SET value = ?3 WHERE rowid >= ?1 AND rowid <= ?2"

-- the number of the row, and its cells after it
abbrev pub cells_set_between : List Term
cells_set_between = col 1 0 ∷ col 1 1 ∷ col 1 2 ∷ col 0 2 ∷ []

pub set_between_runs : Runs set_between_text
    (Update 3 (record { lets = []; body = plain_query place_tree between (col 1 0 ∷ cells_set_between) }))
unfolding understood everything
set_between_runs = record { is = refl; plain = (refl, refl); unlisted = refl }

-- the queries

abbrev pub keys_between_text : List ℕ
keys_between_text = codes "SELECT point, priority FROM place WHERE rowid >= ?1 AND rowid <= ?2"

pub keys_between_runs : Runs keys_between_text
    (selection place_tree between (col 1 1 ∷ col 1 2 ∷ []) (codes "point" ∷ codes "priority" ∷ []))
unfolding understood everything
keys_between_runs = record { is = refl; plain = (refl, refl); unlisted = refl }

abbrev pub next_point_text : List ℕ
next_point_text = codes "SELECT point FROM place WHERE point >= ?1 ORDER BY point LIMIT 1"

pub next_point_runs : Runs next_point_text
    (least place_tree (compared_with Ge 1 0 ∷ []) 1 (codes "point" ∷ []))
unfolding understood everything
next_point_runs = record { is = refl; plain = (refl, refl); unlisted = refl }

pub next_point_sure : (from : List ℕ) → IsSure next_point_text (Text from ∷ [])
unfolding understood everything
next_point_sure from = sure next_point_runs (Text from ∷ []) (refl, refl, refl) refl refl place_tree refl

abbrev pub of_point_text : List ℕ
of_point_text = codes "SELECT priority, value, rowid FROM place WHERE point = ?1"

pub of_point_runs : Runs of_point_text
    (selection place_tree (given 1 0 ∷ []) (col 1 2 ∷ col 1 3 ∷ col 1 0 ∷ []) (codes "priority" ∷ codes "value" ∷ codes "rowid" ∷ []))
unfolding understood everything
of_point_runs = record { is = refl; plain = (refl, refl); unlisted = refl }

pub of_point_sure : (point : List ℕ) → IsSure of_point_text (Text point ∷ [])
unfolding understood everything
of_point_sure point = sure of_point_runs (Text point ∷ []) (refl, refl, refl) refl refl place_tree refl
