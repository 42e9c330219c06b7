-- What the statements on the imported entries mean.
use Rattle.std.proofs.Common.{ℕ, List, [], ◌∷◌, codes, refl}
use Rattle.sqlite_value.specs.declared.value.Value.TheVariants.{Null, Text}
use Rattle.sqlite_schema.specs.declared.command.Command.TheVariants.{Insert}
use Rattle.sqlite_schema.specs.declared.command.Source.TheVariants.{Values}
use Rattle.sqlite_sql.specs.declared.ops.CompareOp.TheVariants.{Ge}
use Rattle.sqlite_sql.specs.Term.{lit, col}
use Rattle.sqlite.specs.Listing.{understood}
use Rattle.sqlite_tied.specs.Compute.{everything}
use Rattle.store_sql_rows.specs.Schema.{imported_tree}
use Rattle.store_sql_rows.specs.Meanings.{compared_with, deletion, given, least, selection}
use Rattle.store_sql_rows.specs.Failing.{IsSure}
use Rattle.store_sql_rows.proofs.FailLemmas.{sure}
use Rattle.store_sql_rows.proofs.Texts.{Runs}

abbrev pub clear_text : List ℕ
clear_text = codes "DELETE FROM imported WHERE calendar = ?1 AND entry = ?2"

abbrev pub add_text : List ℕ
add_text = codes "INSERT INTO imported (calendar, entry) VALUES (?1, ?2)"

pub clear_runs : Runs clear_text
    (deletion 5 imported_tree (given 1 0 ∷ given 2 1 ∷ []))
unfolding understood everything
clear_runs = record { is = refl; plain = (refl, refl); unlisted = refl }

pub add_runs : Runs add_text
    (Insert 5 (Values (lit Null ∷ col 0 0 ∷ col 0 1 ∷ []) 3))
unfolding understood everything
add_runs = record { is = refl; plain = (refl, refl); unlisted = refl }

-- the queries

abbrev pub next_name_text : List ℕ
next_name_text = codes "SELECT calendar FROM imported WHERE calendar >= ?1 ORDER BY calendar LIMIT 1"

pub next_name_runs : Runs next_name_text
    (least imported_tree (compared_with Ge 1 0 ∷ []) 1 (codes "calendar" ∷ []))
unfolding understood everything
next_name_runs = record { is = refl; plain = (refl, refl); unlisted = refl }

pub next_name_sure : (from : List ℕ) → IsSure next_name_text (Text from ∷ [])
unfolding understood everything
next_name_sure from = sure next_name_runs (Text from ∷ []) (refl, refl, refl) refl refl imported_tree refl

abbrev pub next_entry_text : List ℕ
next_entry_text = codes "SELECT entry FROM imported WHERE calendar = ?1 AND entry >= ?2 ORDER BY entry LIMIT 1"

pub next_entry_runs : Runs next_entry_text
    (least imported_tree (given 1 0 ∷ compared_with Ge 2 1 ∷ []) 2 (codes "entry" ∷ []))
unfolding understood everything
next_entry_runs = record { is = refl; plain = (refl, refl); unlisted = refl }

pub next_entry_sure : (calendar from : List ℕ) → IsSure next_entry_text (Text calendar ∷ Text from ∷ [])
unfolding understood everything
next_entry_sure calendar from = sure next_entry_runs (Text calendar ∷ Text from ∷ []) (refl, refl, refl) refl refl imported_tree refl

abbrev pub of_calendar_text : List ℕ
of_calendar_text = codes "SELECT entry FROM imported WHERE calendar = ?1"

pub of_calendar_runs : Runs of_calendar_text
    (selection imported_tree (given 1 0 ∷ []) (col 1 2 ∷ []) (codes "entry" ∷ []))
unfolding understood everything
of_calendar_runs = record { is = refl; plain = (refl, refl); unlisted = refl }

pub of_calendar_sure : (calendar : List ℕ) → IsSure of_calendar_text (Text calendar ∷ [])
unfolding understood everything
of_calendar_sure calendar = sure of_calendar_runs (Text calendar ∷ []) (refl, refl, refl) refl refl imported_tree refl
