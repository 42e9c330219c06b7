-- What the statements on the row of `desk` mean.
use Rattle.std.proofs.Common.{◌≡◌, ℕ, false, List, [], ◌∷◌, codes, refl, pos}
use Rattle.sqlite_value.specs.declared.value.Value.TheVariants.{Int, Null}
use Rattle.sqlite_schema.specs.declared.command.Command.TheVariants.{Update}
use Rattle.sqlite_sql.specs.Term.{Term, lit, col}
use Rattle.sqlite.specs.Given.{IsPlain}
use Rattle.sqlite.specs.Listing.{reads_listing, understood}
use Rattle.sqlite.proofs.Callers.{command_of}
use Rattle.sqlite_tied.specs.Compute.{everything}
use Rattle.store_sql_rows.specs.Schema.{desk_schema, desk_tree}
use Rattle.store_sql_rows.specs.Failing.{IsSure, IsWhole}
use Rattle.store_sql_rows.specs.Meanings.{plain_query, selection}
use Rattle.store_sql_rows.proofs.FailLemmas.{sure_of_one}

abbrev pub set_last_text : List ℕ
set_last_text = codes "UPDATE desk SET last = ?1"

abbrev pub last_set : List Term
last_set = col 1 0 ∷ col 1 0 ∷ lit Null ∷ col 1 2 ∷ col 0 0 ∷ []

pub set_last_is : command_of (understood desk_schema set_last_text)
    ≡ Update 0 (record { lets = []; body = plain_query desk_tree [] last_set })
unfolding understood everything
set_last_is = refl

pub set_last_plain : IsPlain (understood desk_schema set_last_text)
unfolding understood everything
set_last_plain = (refl, refl)

abbrev pub set_version_text : List ℕ
set_version_text = codes "UPDATE desk SET version = 2"

abbrev pub version_set : List Term
version_set = col 1 0 ∷ col 1 0 ∷ lit Null ∷ lit (Int (pos 2)) ∷ col 1 3 ∷ []

pub set_version_is : command_of (understood desk_schema set_version_text)
    ≡ Update 0 (record { lets = []; body = plain_query desk_tree [] version_set })
unfolding understood everything
set_version_is = refl

pub set_version_plain : IsPlain (understood desk_schema set_version_text)
unfolding understood everything
set_version_plain = (refl, refl)

abbrev pub find_text : List ℕ
find_text = codes "SELECT version, last FROM desk"

pub find_is : command_of (understood desk_schema find_text)
    ≡ selection desk_tree [] (col 1 2 ∷ col 1 3 ∷ []) (codes "version" ∷ codes "last" ∷ [])
unfolding understood everything
find_is = refl

pub find_plain : IsPlain (understood desk_schema find_text)
unfolding understood everything
find_plain = (refl, refl)

pub find_unlisted : reads_listing desk_schema find_text ≡ false
unfolding everything
find_unlisted = refl

find_whole : IsWhole find_text 0 (understood desk_schema find_text)
unfolding understood everything
find_whole = (refl, refl, refl)

pub find_sure : IsSure find_text []
find_sure =
    sure_of_one find_text [] (plain_query desk_tree [] (col 1 2 ∷ col 1 3 ∷ [])) (codes "version" ∷ codes "last" ∷ []) find_is find_plain
    find_unlisted find_whole refl refl desk_tree refl
