use Rattle.std.proofs.Math.ListN.{drop_of_length-le}
use Rattle.std.proofs.Common.{◌∙◌, ◌<◌, IsSome, length, arith, Bool, ◌≡◌, List, [], ◌∷◌, map, refl, drop}
use Rattle.store_memory.specs.declared.spelled_entry.SpelledEntry.{SpelledEntry}
use Rattle.store.specs.Change.{with_each, with_imported}
use Rattle.store_memory.specs.Held.{calendar_slot, imported_of}
use Rattle.store_memory.proofs.HeldLemmas.{at-item, each-step}
use Rattle.dates.specs.Entry.{spelling}
use Rattle.points.specs.Texts.{Text}
use Rattle.store_memory.proofs.calendars.Calendars.put.Goals as goal

pub import-requires : goal.import-requires
import-requires c =
    let below : c.loop-entry.entry-index < length c.args.spelled.now = omega arith in
    c.loop-entry.invariant.room _ _ (at-item (λ (x : SpelledEntry). IsSome (calendar_slot c.args.self.now x.item.calendar
    (spelling x.item.entry))) c.args.spelled.now c.loop-entry.entry-index c.entry-item.result below c.entry-item.is c.requires)

pub loop-entry-preserved : goal.loop-entry-preserved
loop-entry-preserved c =
    let below : c.loop-entry.entry-index < length c.args.spelled.now = omega arith in
    let with_it = λ (x : SpelledEntry) (table : Text → Text → Bool). with_imported x.item table in
    record {
      imported = each-step with_it c.args.spelled.now c.loop-entry.entry-index c.entry-item.result (with_each with_it c.args.spelled.now
          (imported_of c.args.self.now))
          (imported_of c.loop-entry.self) (imported_of c.import.new.self) below c.entry-item.is c.loop-entry.invariant.imported
          (λ i q text. c.import.ensures.imported q text i);
      room = λ q text here. c.import.ensures.stays q text (c.loop-entry.invariant.room q text here);
    }

with_each-map : (spelled : List SpelledEntry) (table : Text → Text → Bool)
    → with_each (λ (x : SpelledEntry) (t : Text → Text → Bool). with_imported x.item t) spelled table ≡ with_each with_imported (map
    (λ x. x.item) spelled) table
with_each-map [] table = refl
with_each-map (x ∷ xs) table = with_each-map xs (with_imported x.item table)

pub returns : goal.returns
returns c =
    let n = c.args.spelled.now in
    let with_it = λ (x : SpelledEntry) (table : Text → Text → Bool). with_imported x.item table in
    let done : drop c.loop-entry.entry-index n ≡ [] = drop_of_length-le n (omega arith) in
    let whole : imported_of c.loop-entry.self ≡ with_each with_it n (imported_of c.args.self.now) =
    rw done at c.loop-entry.invariant.imported in
    whole ∙ with_each-map n (imported_of c.args.self.now)
