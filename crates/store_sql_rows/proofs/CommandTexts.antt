-- What the statements on the commands mean.
use Rattle.std.proofs.Common.{ℕ, pos, List, [], ◌∷◌, codes, refl}
use Rattle.sqlite_value.specs.declared.value.Value.TheVariants.{Int, Null, Text}
use Rattle.sqlite_schema.specs.declared.command.Command.TheVariants.{Insert, Update}
use Rattle.sqlite_schema.specs.declared.command.Source.TheVariants.{Values}
use Rattle.sqlite_sql.specs.declared.ops.CompareOp.TheVariants.{Ge, Lt}
use Rattle.sqlite_sql.specs.Term.{Term, lit, col}
use Rattle.sqlite.specs.Listing.{understood}
use Rattle.sqlite_tied.specs.Compute.{everything}
use Rattle.store_sql_rows.specs.Schema.{command_tree}
use Rattle.store_sql_rows.specs.Meanings.{compared_with, deletion, given, least, ordered, plain_query, selection}
use Rattle.store_sql_rows.specs.Failing.{IsSure}
use Rattle.store_sql_rows.proofs.FailLemmas.{sure}
use Rattle.store_sql_rows.proofs.Texts.{Runs}

abbrev pub clear_text : List ℕ
clear_text = codes "DELETE FROM command WHERE panel = ?1 AND number = ?2"

abbrev pub add_text : List ℕ
add_text = codes "INSERT INTO command (panel, number, point, priority, value, state, a, b) VALUES (?1, ?2, ?3, ?4, ?5, ?6, ?7, ?8)"

pub clear_runs : Runs clear_text
    (deletion 2 command_tree (given 1 0 ∷ given 2 1 ∷ []))
unfolding understood everything
clear_runs = record { is = refl; plain = (refl, refl); unlisted = refl }

pub add_runs : Runs add_text
    (Insert 2 (Values (lit Null ∷ col 0 0 ∷ col 0 1 ∷ col 0 2 ∷ col 0 3 ∷ col 0 4 ∷ col 0 5 ∷ col 0 6 ∷ col 0 7 ∷ []) 9))
unfolding understood everything
add_runs = record { is = refl; plain = (refl, refl); unlisted = refl }

abbrev pub drop_text : List ℕ
drop_text = codes "DELETE FROM command WHERE panel = ?1 AND number < ?2"

pub drop_runs : Runs drop_text
    (deletion 2 command_tree (given 1 0 ∷ compared_with Lt 2 1 ∷ []))
unfolding understood everything
drop_runs = record { is = refl; plain = (refl, refl); unlisted = refl }

abbrev pub exchange_text : List ℕ
exchange_text = codes
    "UPDATE command SET number = ?2, point = ?3, priority = ?4, value = ?5, state = ?6, a = ?7, b = ?8 WHERE panel = ?1 AND number < ?9"

-- the number of the row, and its cells after it
abbrev pub cells_set : List Term
cells_set = col 1 0 ∷ col 1 1 ∷ col 0 1 ∷ col 0 2 ∷ col 0 3 ∷ col 0 4 ∷ col 0 5 ∷ col 0 6 ∷ col 0 7 ∷ []

pub exchange_runs : Runs exchange_text
    (Update 2 (record { lets = []; body = plain_query command_tree (given 1 0 ∷ compared_with Lt 2 8 ∷ []) (col 1 0 ∷ cells_set) }))
unfolding understood everything
exchange_runs = record { is = refl; plain = (refl, refl); unlisted = refl }

-- the queries

abbrev pub find_text : List ℕ
find_text = codes "SELECT point, priority, value, state, a, b FROM command WHERE panel = ?1 AND number = ?2"

pub find_runs : Runs find_text
    (selection command_tree (given 1 0 ∷ given 2 1 ∷ []) (col 1 3 ∷ col 1 4 ∷ col 1 5 ∷ col 1 6 ∷ col 1 7 ∷ col 1 8 ∷ [])
    (codes "point" ∷ codes "priority" ∷ codes "value" ∷ codes "state" ∷ codes "a" ∷ codes "b" ∷ []))
unfolding understood everything
find_runs = record { is = refl; plain = (refl, refl); unlisted = refl }

pub find_sure : (panel : List ℕ) (number : ℕ) → IsSure find_text (Text panel ∷ Int (pos number) ∷ [])
unfolding understood everything
find_sure panel number = sure find_runs (Text panel ∷ Int (pos number) ∷ []) (refl, refl, refl) refl refl command_tree refl

abbrev pub below_text : List ℕ
below_text = codes "SELECT number FROM command WHERE panel = ?1 AND number < ?2"

pub below_runs : Runs below_text
    (selection command_tree (given 1 0 ∷ compared_with Lt 2 1 ∷ []) (col 1 2 ∷ []) (codes "number" ∷ []))
unfolding understood everything
below_runs = record { is = refl; plain = (refl, refl); unlisted = refl }

pub below_sure : (panel : List ℕ) (number : ℕ) → IsSure below_text (Text panel ∷ Int (pos number) ∷ [])
unfolding understood everything
below_sure panel number = sure below_runs (Text panel ∷ Int (pos number) ∷ []) (refl, refl, refl) refl refl command_tree refl

abbrev pub next_panel_text : List ℕ
next_panel_text = codes "SELECT panel FROM command WHERE panel >= ?1 ORDER BY panel LIMIT 1"

pub next_panel_runs : Runs next_panel_text
    (least command_tree (compared_with Ge 1 0 ∷ []) 1 (codes "panel" ∷ []))
unfolding understood everything
next_panel_runs = record { is = refl; plain = (refl, refl); unlisted = refl }

pub next_panel_sure : (from : List ℕ) → IsSure next_panel_text (Text from ∷ [])
unfolding understood everything
next_panel_sure from = sure next_panel_runs (Text from ∷ []) (refl, refl, refl) refl refl command_tree refl

abbrev pub next_number_text : List ℕ
next_number_text = codes "SELECT number FROM command WHERE panel = ?1 AND number >= ?2 ORDER BY number LIMIT 1"

pub next_number_runs : Runs next_number_text
    (least command_tree (given 1 0 ∷ compared_with Ge 2 1 ∷ []) 2 (codes "number" ∷ []))
unfolding understood everything
next_number_runs = record { is = refl; plain = (refl, refl); unlisted = refl }

pub next_number_sure : (panel : List ℕ) (number : ℕ) → IsSure next_number_text (Text panel ∷ Int (pos number) ∷ [])
unfolding understood everything
next_number_sure panel number = sure next_number_runs (Text panel ∷ Int (pos number) ∷ []) (refl, refl, refl) refl refl command_tree refl

abbrev pub run_text : List ℕ
run_text = codes
    "SELECT number, point, priority, value, state, a, b FROM command WHERE panel = ?1 AND number >= ?2 ORDER BY number"

pub run_runs : Runs run_text
    (ordered command_tree (given 1 0 ∷ compared_with Ge 2 1 ∷ []) 2 (col 1 3 ∷ col 1 4 ∷ col 1 5 ∷ col 1 6 ∷ col 1 7 ∷ col 1 8 ∷ [])
    (codes "number" ∷ codes "point" ∷ codes "priority" ∷ codes "value" ∷ codes "state" ∷ codes "a" ∷ codes "b" ∷ []))
unfolding understood everything
run_runs = record { is = refl; plain = (refl, refl); unlisted = refl }

pub run_sure : (panel : List ℕ) (number : ℕ) → IsSure run_text (Text panel ∷ Int (pos number) ∷ [])
unfolding understood everything
run_sure panel number = sure run_runs (Text panel ∷ Int (pos number) ∷ []) (refl, refl, refl) refl refl command_tree refl
