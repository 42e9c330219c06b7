-- The parts of a change make the whole.
use Rattle.std.proofs.Common.{◌≡◌, List, [], ◌∷◌, refl, ap, ◌∙◌}
use Rattle.store.specs.declared.change.Change.{Change}
use Rattle.store.specs.declared.change.ImportedEntry.{ImportedEntry}
use Rattle.store.specs.declared.change.KeptRow.{KeptRow}
use Rattle.store.specs.declared.change.NextNumber.{NextNumber}
use Rattle.store.specs.declared.change.PlaceValue.{PlaceValue}
use Rattle.store.specs.declared.change.RowsBelow.{RowsBelow}
use Rattle.store.specs.declared.change.ShownValue.{ShownValue}
use Rattle.store.specs.Change.{with_change, with_each, with_imported, with_next, with_place, with_row, with_shown, without_rows}
use Rattle.store.specs.Tables.{Tables}
use Rattle.store_sql_rows.specs.Steps.{imported_put, last_put, next_put, place_put, row_put, rows_dropped, shown_put, with_commands, with_values}

nexts : (items : List NextNumber) (t : Tables) → with_each next_put items t ≡ record t { next = with_each with_next items t.next }
nexts [] t = refl
nexts (item ∷ items) t = nexts items (next_put item t)

rows : (items : List KeptRow) (t : Tables) → with_each row_put items t ≡ record t { row = with_each with_row items t.row }
rows [] t = refl
rows (item ∷ items) t = rows items (row_put item t)

pub dropped : (items : List RowsBelow) (t : Tables) → with_each rows_dropped items t ≡ record t { row = with_each without_rows items t.row }
dropped [] t = refl
dropped (item ∷ items) t = dropped items (rows_dropped item t)

places : (items : List PlaceValue) (t : Tables) → with_each place_put items t ≡ record t { places = with_each with_place items t.places }
places [] t = refl
places (item ∷ items) t = places items (place_put item t)

shown : (items : List ShownValue) (t : Tables) → with_each shown_put items t ≡ record t { shown = with_each with_shown items t.shown }
shown [] t = refl
shown (item ∷ items) t = shown items (shown_put item t)

imported : (items : List ImportedEntry) (t : Tables)
    → with_each imported_put items t ≡ record t { imported = with_each with_imported items t.imported }
imported [] t = refl
imported (item ∷ items) t = imported items (imported_put item t)

-- the commands and then the values are the whole change
pub whole : (change : Change) (t : Tables) → with_values change (with_commands change t) ≡ with_change change t
unfolding with_change
whole change t =
    let one : Tables = record t { next = with_each with_next change.nexts.items t.next } in
    let two : Tables = record one { row = with_each with_row change.rows.items t.row } in
    let three : Tables = record two { row = with_each without_rows change.dropped.items two.row } in
    let four : Tables = record three { places = with_each with_place change.places.items t.places } in
    let five : Tables = record four { shown = with_each with_shown change.shown.items t.shown } in
    ap (λ u. with_values change (with_each rows_dropped change.dropped.items (with_each row_put change.rows.items u)))
    (nexts change.nexts.items t)
    ∙ ap (λ u. with_values change (with_each rows_dropped change.dropped.items u)) (rows change.rows.items one)
    ∙ ap (with_values change) (dropped change.dropped.items two)
    ∙ ap (λ u. last_put change.last_tick (with_each imported_put change.imported.items (with_each shown_put change.shown.items u)))
    (places change.places.items three)
    ∙ ap (λ u. last_put change.last_tick (with_each imported_put change.imported.items u)) (shown change.shown.items four)
    ∙ ap (last_put change.last_tick) (imported change.imported.items five)
