use Rattle.std.proofs.Common.{◌∙◌, ap, List}
use Rattle.store.specs.declared.change.ImportedEntry.{ImportedEntry}
use Rattle.store.specs.declared.change.NextNumber.{NextNumber}
use Rattle.store.specs.declared.change.PlaceValue.{PlaceValue}
use Rattle.store.specs.declared.change.ShownValue.{ShownValue}
use Rattle.store.specs.Change.{with_change, with_each, with_imported, with_next, with_place, with_row, with_shown, without_rows}
use Rattle.store_memory.specs.Memory.{tables_of}
use Rattle.store_memory.proofs.mem_store.MemStore.put.Goals as goal

pub put_rows-requires : goal.put_rows-requires
put_rows-requires c = rw c.deref-2.ensures.value (λ k d below. c.put_nexts.ensures.room.slots _ _ (c.requires.room.rows k d below))

pub put-requires-clause-room : goal.put-requires-clause-room
put-requires-clause-room c = rw c.deref-4.ensures.value c.requires.room.places

pub put-requires-2 : goal.put-requires-2
put-requires-2 c = rw c.deref-5.ensures.value c.requires.room.shown

pub returns : goal.returns
unfolding with_change
returns c =
    let old = tables_of c.args.self.now in
    let places = c.put.ensures ∙ ap (λ (items : List PlaceValue). with_each with_place items old.places) c.deref-4.ensures.value in
    let next = c.drop_rows.ensures.next ∙ c.put_rows.ensures.next ∙ c.put_nexts.ensures.next
    ∙ ap (λ (items : List NextNumber). with_each with_next items old.next) c.deref.ensures.value in
    let rows = c.put_rows.ensures.rows ∙ (λ i. with_each with_row (c.deref-2.ensures.value i) (c.put_nexts.ensures.rows i)) in
    let row = c.drop_rows.ensures.rows ∙ (λ i. with_each without_rows (c.deref-3.ensures.value i) (rows i)) in
    let shown = c.put-2.ensures ∙ ap (λ (items : List ShownValue). with_each with_shown items old.shown) c.deref-5.ensures.value in
    let imported = c.put-3.ensures ∙ ap (λ (items : List ImportedEntry). with_each with_imported items old.imported) c.requires.imported in
    λ i. record {
      places = places i;
      next = next i;
      row = row i;
      shown = shown i;
      imported = imported i;
      last_tick = c.last_of-self.ensures i;
    }
