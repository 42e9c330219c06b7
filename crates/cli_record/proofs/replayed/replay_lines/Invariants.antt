use Rattle.std.proofs.Common.{◌≡◌, ℕ, List, Some}
use Rattle.std.specs.Io.Buffered.{reader_remaining}
use Rattle.deliveries.specs.Delivered.{Holds}
use Rattle.deliveries.specs.declared.delivery.Delivery.{Delivery}
use Rattle.cli_record.proofs.ReplayLemmas.{Passing, Replaying}
use Rattle.cli_record.proofs.replayed.replay_lines.Given as goal

-- the lines so far were read, and were replayed over the same building
abbrev pub invariant-loop-number : goal.invariant-loop-number
invariant-loop-number g l = (l.desk.building ≡ l.initial.desk.building)
    × ((bytes : List ℕ) → reader_remaining g.D.Read.remaining l.initial.reader ≡ Some bytes
    → Passing bytes (reader_remaining g.D.Read.remaining l.reader))
    × ((earlier : List Delivery) (bytes : List ℕ) → reader_remaining g.D.Read.remaining l.initial.reader ≡ Some bytes
    → (g.S.Store.standing l.desk.store).is_honest → Holds l.initial.desk.building earlier (g.S.Store.standing l.initial.desk.store)
    → Replaying l.initial.desk.building earlier bytes (reader_remaining g.D.Read.remaining l.reader) l.last (g.S.Store.standing l.desk.store))
