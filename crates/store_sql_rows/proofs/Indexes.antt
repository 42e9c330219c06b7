-- The names of the keys' indexes, written out.
use Rattle.std.proofs.Common.{◌≡◌, List, [], ◌∷◌, ◌++◌, codes, ℕ, ap, arith}
use Rattle.std.specs.Fmt.{decimal}
use Rattle.std.proofs.lemmas.Fmt.{decimal_digit}
use Rattle.store_sql_rows.specs.Schema.{desk_schema}
use Rattle.store_sql_rows.specs.Recognised.{key_index}

one : decimal 1 ≡ codes "1"
one = decimal_digit 1 (omega arith)

named : (name : List ℕ) (tree table : ℕ) (columns : List ℕ)
    → key_index (codes "sqlite_autoindex_" ++ (name ++ (codes "_" ++ decimal 1))) tree table columns
    ≡ key_index (codes "sqlite_autoindex_" ++ (name ++ codes "_1")) tree table columns
named name tree table columns =
    ap (λ digits. key_index (codes "sqlite_autoindex_" ++ (name ++ (codes "_" ++ digits))) tree table columns) one

pub desk_indexes : desk_schema.indexes
    ≡ key_index (codes "sqlite_autoindex_panel_1") 2 1 (1 ∷ []) ∷ key_index (codes "sqlite_autoindex_command_1") 4 3 (1 ∷ 2 ∷ [])
    ∷ key_index (codes "sqlite_autoindex_place_1") 6 5 (1 ∷ 2 ∷ [])
    ∷ key_index (codes "sqlite_autoindex_shown_1") 8 7 (1 ∷ []) ∷ key_index (codes "sqlite_autoindex_imported_1") 10 9 (1 ∷ 2 ∷ []) ∷ []
desk_indexes =
    λ i. named (codes "panel") 2 1 (1 ∷ []) i ∷ named (codes "command") 4 3 (1 ∷ 2 ∷ []) i
    ∷ named (codes "place") 6 5 (1 ∷ 2 ∷ []) i ∷ named (codes "shown") 8 7 (1 ∷ []) i ∷ named (codes "imported") 10 9 (1 ∷ 2 ∷ []) i ∷ []
