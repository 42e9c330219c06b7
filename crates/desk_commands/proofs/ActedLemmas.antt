-- One more command is acted on: its row comes first of those that were to come.
use Rattle.std.proofs.Common.{◌≡◌, ◌<◌, ◌+◌, ◌++◌, ◌∷◌, ◌∙◌, [], ℕ, List, ap, ap₂, drop, get_or, length, sym}
use Rattle.std.proofs.lemmas.List.{append_assoc, drop_more}
use Rattle.building.specs.Building.{Building}
use Rattle.deliveries.specs.Machine.{answer_to}
use Rattle.deliveries.specs.Moved.{answered_rows, places_after_each}
use Rattle.points.specs.PriorityArray.{Places}
use Rattle.points.specs.Texts.{Text}
use Rattle.store.specs.declared.change.KeptRow.{KeptRow}
use Rattle.window.specs.declared.numbered_content.NumberedContent.{NumberedContent}
use Rattle.desk_commands.specs.declared.acting.Acted.{Acted}
use Rattle.desk_commands.specs.Written.{answered_row, written, Acts}

module _ (building : Building) (panel : Text) (held : Text → Places) (entries : List NumberedContent) (index : ℕ) (entry : NumberedContent)
    (below : index < length entries) (is : entry ≡ get_or entries index entry) (old new : Acted)
    (acts : Acts building panel held entry old new) where
  left : drop index entries ≡ entry ∷ drop (index + 1) entries
  left = drop_more entries index entry below ∙ ap (λ (e : NumberedContent). e ∷ drop (index + 1) entries) (sym is)

  pub rows_then : (all : List KeptRow)
      → old.rows.items ++ answered_rows building (written old.places.items held) panel (drop index entries) ≡ all
      → new.rows.items ++ answered_rows building (written new.places.items held) panel (drop (index + 1) entries) ≡ all
  rows_then all before =
      let row = answered_row panel entry (answer_to building (written old.places.items held) panel entry.content) in
      ap₂ (λ (rows : List KeptRow) (places : Text → Places). rows ++ answered_rows building places panel (drop (index + 1) entries))
      acts.rows acts.places
      ∙ append_assoc old.rows.items (row ∷ []) _
      ∙ ap (λ rest. old.rows.items ++ answered_rows building (written old.places.items held) panel rest) (sym left)
      ∙ before

  pub places_then : (all : Text → Places) → places_after_each building (written old.places.items held) panel (drop index entries) ≡ all
      → places_after_each building (written new.places.items held) panel (drop (index + 1) entries) ≡ all
  places_then all before =
      ap (λ places. places_after_each building places panel (drop (index + 1) entries)) acts.places
      ∙ ap (λ rest. places_after_each building (written old.places.items held) panel rest) (sym left)
      ∙ before
