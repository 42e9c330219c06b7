use Rattle.std.proofs.Common.{◌≡◌, refl, rules}
use Rattle.store.specs.Change.{with_each}
use Rattle.store.specs.Tables.{Tables}
use Rattle.store_sql_rows.specs.Steps.{imported_put, last_put, place_put, shown_put, with_values}
use Rattle.store_sql_rows.proofs.StepLemmas.{turns_then}
use Rattle.store_sql.proofs.writing.write_values.Goals as goal

pub returns : goal.returns
returns g c =
    let same_places : c.deref.result.now ≡ c.args.change.now.places.items = search rules in
    let same_shown : c.deref-2.result.now ≡ c.args.change.now.shown.items = search rules in
    let same_imported : c.deref-3.result.now ≡ c.args.change.now.imported.items = search rules in
    let change = c.args.change.now in
    let first = with_each place_put change.places.items in
    let second = with_each shown_put change.shown.items in
    let third = with_each imported_put change.imported.items in
    let two = λ (t : Tables). second (first t) in
    let three = λ (t : Tables). third (two t) in
    record {
      moves = turns_then three (last_put change.last_tick) (with_values change) (λ t. refl)
          (turns_then two third three (λ t. refl)
          (turns_then first second two (λ t. refl) (rw same_places at c.in_ok-put_places.ensures.moves)
          (rw same_shown at c.in_ok-put_all_shown.ensures.moves))
          (rw same_imported at c.in_ok-put_all_imported.ensures.moves))
          c.put_last.ensures.moves;
    }
