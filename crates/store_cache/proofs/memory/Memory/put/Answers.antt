use Rattle.std.proofs.Common.{◌≡◌, List, false, Some, refl, sym, subst}
use Rattle.std.specs.HashMap.{get}
use Rattle.std.specs.Str.{bytes_eq}
use Rattle.store.specs.declared.change.ImportedEntry.{ImportedEntry}
use Rattle.store.specs.declared.change.KeptRow.{KeptRow}
use Rattle.store.specs.declared.change.NextNumber.{NextNumber}
use Rattle.store.specs.declared.change.PlaceValue.{PlaceValue}
use Rattle.store.specs.declared.change.ShownValue.{ShownValue}
use Rattle.store.specs.Asked.Asked.{ArrayOf, EntriesOf, LastTick, NextOf, ShownBy}
use Rattle.store.specs.Change.{with_change, with_each, with_imported, with_last_tick, with_next, with_place, with_row, with_shown}
use Rattle.store_cache.specs.Free.{AreFreeIn}
use Rattle.store_cache.specs.Known.{Has, Knows}
use Rattle.store_cache.specs.Recalled.{AreImported}
use Rattle.store_cache.proofs.FreeLemmas.{free_dropped}
use Rattle.store_cache.proofs.KnownLemmas.{last_known}
use Rattle.store_cache.proofs.memory.Memory.put.Goals as goal

pub put_places-requires : goal.put_places-requires
put_places-requires c = rw c.deref-3.ensures.value c.requires.places

pub returns : goal.returns
unfolding with_change
returns c = λ tables rows recalls. record {
  nexts =
      subst (λ (items : List NextNumber). Knows (get bytes_eq c.put_nexts.new.known) (Has (with_each with_next items tables.next))
      (λ panel. rows (NextOf panel))) c.deref.ensures.value
      (c.put_nexts.ensures tables.next (λ panel. rows (NextOf panel)) recalls.nexts);
  free = λ panel free is. (
    λ n after before. let here = ((subst (λ (items : List KeptRow). Knows (get bytes_eq c.put_rows.new.known)
        (AreFreeIn (with_each with_row items tables.row) rows) (λ _. false)) c.deref-2.ensures.value
        (c.put_rows.ensures tables.row rows recalls.free)) panel free is).0 n after before in
        (free_dropped c.args.change.now.dropped.items (with_each with_row c.args.change.now.rows.items tables.row) panel n here.0, here.1),
    refl,
  );
  arrays =
      subst (λ (items : List PlaceValue). Knows (get bytes_eq c.put_places.new.known) (Has (with_each with_place items tables.places))
      (λ point. rows (ArrayOf point))) c.deref-3.ensures.value
      (c.put_places.ensures tables.places (λ point. rows (ArrayOf point)) recalls.arrays);
  shown =
      subst (λ (items : List ShownValue). Knows (get bytes_eq c.put_all_shown.new.known) (Has (with_each with_shown items tables.shown))
      (λ schedule. rows (ShownBy schedule))) c.deref-4.ensures.value
      (c.put_all_shown.ensures tables.shown (λ schedule. rows (ShownBy schedule)) recalls.shown);
  entries =
      subst (λ (items : List ImportedEntry). Knows (get bytes_eq c.forget_imported.new.known)
      (AreImported (with_each with_imported items tables.imported)) (λ calendar. rows (EntriesOf calendar))) c.deref-5.ensures.value
      (c.forget_imported.ensures tables.imported (λ calendar. rows (EntriesOf calendar)) recalls.entries);
  last_tick =
      subst (λ known. (last : _) → known ≡ Some last → (with_last_tick c.args.change.now.last_tick tables.last_tick ≡ last)
      × (rows LastTick ≡ false)) (sym c.last_after-self.ensures)
      (last_known c.args.self.now.last_tick c.args.change.now.last_tick tables.last_tick (rows LastTick) recalls.last_tick);
}
