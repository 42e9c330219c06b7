-- What the questions mean.
use Rattle.std.proofs.Common.{◌≡◌, ℕ, List, [], ◌∷◌, codes, refl}
use Rattle.sqlite.specs.Listing.{understood}
use Rattle.sqlite.proofs.Callers.{command_of}
use Rattle.sqlite_tied.specs.Compute.{everything}
use Rattle.store_sql_rows.specs.Schema.{command_tree, desk_schema, desk_tree, imported_tree, panel_tree, place_tree, shown_tree}
use Rattle.store_sql_rows.specs.Meanings.{plain_query}
use Rattle.store_sql_rows.proofs.FailLemmas.{sure_of_one, sure_of_two}
use Rattle.store_sql.specs.Asking.{IsAskable}
use Rattle.store_sql.proofs.Questions.{differs, differ, has_no_number, one, pair_query, pairing, share, unnumbered}

abbrev pub desk_numbered_text : List ℕ
desk_numbered_text = codes "SELECT 1 FROM desk WHERE typeof(rowid) <> 'integer'"

pub desk_numbered_is : command_of (understood desk_schema desk_numbered_text) ≡ unnumbered desk_tree
unfolding understood everything
desk_numbered_is = refl

pub desk_numbered_askable : IsAskable desk_numbered_text
unfolding understood everything
desk_numbered_askable =
    sure_of_one desk_numbered_text [] (plain_query desk_tree (has_no_number ∷ []) one) (codes "1" ∷ []) desk_numbered_is (refl, refl) refl (refl, refl, refl) refl refl desk_tree refl

abbrev pub panel_numbered_text : List ℕ
panel_numbered_text = codes "SELECT 1 FROM panel WHERE typeof(rowid) <> 'integer'"

pub panel_numbered_is : command_of (understood desk_schema panel_numbered_text) ≡ unnumbered panel_tree
unfolding understood everything
panel_numbered_is = refl

pub panel_numbered_askable : IsAskable panel_numbered_text
unfolding understood everything
panel_numbered_askable =
    sure_of_one panel_numbered_text [] (plain_query panel_tree (has_no_number ∷ []) one) (codes "1" ∷ []) panel_numbered_is (refl, refl) refl (refl, refl, refl) refl refl panel_tree refl

abbrev pub panel_apart_text : List ℕ
panel_apart_text = codes "SELECT 1 FROM panel a, panel b WHERE a.rowid = b.rowid AND a.name IS NOT b.name"

pub panel_apart_is : command_of (understood desk_schema panel_apart_text) ≡ pairing panel_tree (differs 1)
unfolding understood everything
panel_apart_is = refl

pub panel_apart_askable : IsAskable panel_apart_text
unfolding understood everything
panel_apart_askable =
    sure_of_two panel_apart_text [] (pair_query panel_tree (share ∷ differs 1 ∷ [])) (codes "1" ∷ []) panel_apart_is (refl, refl) refl (refl, refl, refl) refl refl panel_tree panel_tree refl

abbrev pub command_numbered_text : List ℕ
command_numbered_text = codes "SELECT 1 FROM command WHERE typeof(rowid) <> 'integer'"

pub command_numbered_is : command_of (understood desk_schema command_numbered_text) ≡ unnumbered command_tree
unfolding understood everything
command_numbered_is = refl

pub command_numbered_askable : IsAskable command_numbered_text
unfolding understood everything
command_numbered_askable =
    sure_of_one command_numbered_text [] (plain_query command_tree (has_no_number ∷ []) one) (codes "1" ∷ []) command_numbered_is (refl, refl) refl (refl, refl, refl) refl refl command_tree refl

abbrev pub command_apart_text : List ℕ
command_apart_text =
    codes "SELECT 1 FROM command a, command b WHERE a.rowid = b.rowid AND (a.panel IS NOT b.panel OR a.number IS NOT b.number)"

pub command_apart_is : command_of (understood desk_schema command_apart_text) ≡ pairing command_tree (differ 1 2)
unfolding understood everything
command_apart_is = refl

pub command_apart_askable : IsAskable command_apart_text
unfolding understood everything
command_apart_askable =
    sure_of_two command_apart_text [] (pair_query command_tree (share ∷ differ 1 2 ∷ [])) (codes "1" ∷ []) command_apart_is (refl, refl) refl (refl, refl, refl) refl refl command_tree command_tree refl

abbrev pub place_numbered_text : List ℕ
place_numbered_text = codes "SELECT 1 FROM place WHERE typeof(rowid) <> 'integer'"

pub place_numbered_is : command_of (understood desk_schema place_numbered_text) ≡ unnumbered place_tree
unfolding understood everything
place_numbered_is = refl

pub place_numbered_askable : IsAskable place_numbered_text
unfolding understood everything
place_numbered_askable =
    sure_of_one place_numbered_text [] (plain_query place_tree (has_no_number ∷ []) one) (codes "1" ∷ []) place_numbered_is (refl, refl) refl (refl, refl, refl) refl refl place_tree refl

abbrev pub place_apart_text : List ℕ
place_apart_text =
    codes "SELECT 1 FROM place a, place b WHERE a.rowid = b.rowid AND (a.point IS NOT b.point OR a.priority IS NOT b.priority)"

pub place_apart_is : command_of (understood desk_schema place_apart_text) ≡ pairing place_tree (differ 1 2)
unfolding understood everything
place_apart_is = refl

pub place_apart_askable : IsAskable place_apart_text
unfolding understood everything
place_apart_askable =
    sure_of_two place_apart_text [] (pair_query place_tree (share ∷ differ 1 2 ∷ [])) (codes "1" ∷ []) place_apart_is (refl, refl) refl (refl, refl, refl) refl refl place_tree place_tree refl

abbrev pub shown_numbered_text : List ℕ
shown_numbered_text = codes "SELECT 1 FROM shown WHERE typeof(rowid) <> 'integer'"

pub shown_numbered_is : command_of (understood desk_schema shown_numbered_text) ≡ unnumbered shown_tree
unfolding understood everything
shown_numbered_is = refl

pub shown_numbered_askable : IsAskable shown_numbered_text
unfolding understood everything
shown_numbered_askable =
    sure_of_one shown_numbered_text [] (plain_query shown_tree (has_no_number ∷ []) one) (codes "1" ∷ []) shown_numbered_is (refl, refl) refl (refl, refl, refl) refl refl shown_tree refl

abbrev pub shown_apart_text : List ℕ
shown_apart_text = codes "SELECT 1 FROM shown a, shown b WHERE a.rowid = b.rowid AND a.schedule IS NOT b.schedule"

pub shown_apart_is : command_of (understood desk_schema shown_apart_text) ≡ pairing shown_tree (differs 1)
unfolding understood everything
shown_apart_is = refl

pub shown_apart_askable : IsAskable shown_apart_text
unfolding understood everything
shown_apart_askable =
    sure_of_two shown_apart_text [] (pair_query shown_tree (share ∷ differs 1 ∷ [])) (codes "1" ∷ []) shown_apart_is (refl, refl) refl (refl, refl, refl) refl refl shown_tree shown_tree refl

abbrev pub imported_numbered_text : List ℕ
imported_numbered_text = codes "SELECT 1 FROM imported WHERE typeof(rowid) <> 'integer'"

pub imported_numbered_is : command_of (understood desk_schema imported_numbered_text) ≡ unnumbered imported_tree
unfolding understood everything
imported_numbered_is = refl

pub imported_numbered_askable : IsAskable imported_numbered_text
unfolding understood everything
imported_numbered_askable =
    sure_of_one imported_numbered_text [] (plain_query imported_tree (has_no_number ∷ []) one) (codes "1" ∷ []) imported_numbered_is (refl, refl) refl (refl, refl, refl) refl refl imported_tree refl

abbrev pub imported_apart_text : List ℕ
imported_apart_text =
    codes "SELECT 1 FROM imported a, imported b WHERE a.rowid = b.rowid AND (a.calendar IS NOT b.calendar OR a.entry IS NOT b.entry)"

pub imported_apart_is : command_of (understood desk_schema imported_apart_text) ≡ pairing imported_tree (differ 1 2)
unfolding understood everything
imported_apart_is = refl

pub imported_apart_askable : IsAskable imported_apart_text
unfolding understood everything
imported_apart_askable =
    sure_of_two imported_apart_text [] (pair_query imported_tree (share ∷ differ 1 2 ∷ [])) (codes "1" ∷ []) imported_apart_is (refl, refl) refl (refl, refl, refl) refl refl imported_tree imported_tree refl
