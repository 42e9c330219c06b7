use Rattle.std.proofs.Common.{◌≡◌, IsSome, drop}
use Rattle.store.specs.Change.{with_each, with_imported}
use Rattle.store_memory.specs.Held.{calendar_slot, imported_of}
use Rattle.points.specs.Texts.{Text}
use Rattle.store_memory.proofs.calendars.Calendars.put.Given as goal
use Rattle.store_memory.specs.declared.spelled_entry.SpelledEntry.{SpelledEntry}
use Rattle.std.proofs.Common.{Bool}

abbrev pub invariant-loop-entry : goal.invariant-loop-entry
invariant-loop-entry l = record {
  imported : with_each (λ (x : SpelledEntry) (table : Text → Text → Bool). with_imported x.item table)
      (drop l.entry-index l.spelled) (imported_of l.self)
      ≡ with_each (λ (x : SpelledEntry) (table : Text → Text → Bool). with_imported x.item table) l.spelled (imported_of l.fn.self);
  room : (q text : Text) → IsSome (calendar_slot l.fn.self q text) → IsSome (calendar_slot l.self q text);
}
