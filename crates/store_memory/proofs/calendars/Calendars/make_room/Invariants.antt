use Rattle.std.proofs.Common.{◌≡◌, ℕ, ◌<◌, IsSome, get_or}
use Rattle.store_memory.specs.Held.{calendar_slot, imported_of}
use Rattle.points.specs.Texts.{Text}
use Rattle.store_memory.proofs.calendars.Calendars.make_room.Given as goal
use Rattle.dates.specs.Entry.{spelling}

abbrev pub invariant-loop-entry : goal.invariant-loop-entry
invariant-loop-entry l = record {
  room : (k : ℕ) (d : _) → k < l.entry-index
      → IsSome (calendar_slot l.self (get_or l.spelled k d).item.calendar (spelling (get_or l.spelled k d).item.entry));
  same : (q text : Text) → imported_of l.self q text ≡ imported_of l.fn.self q text;
}
