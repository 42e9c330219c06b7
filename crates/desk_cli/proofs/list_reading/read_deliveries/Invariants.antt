use Rattle.std.proofs.Common.{◌≡◌, ℕ, List, Some}
use Rattle.std.specs.Io.Buffered.{reader_remaining}
use Rattle.desk_cli.proofs.CollectLemmas.{Collecting}
use Rattle.desk_cli.proofs.list_reading.read_deliveries.Given as goal

-- what the lines so far are of, and what is left
abbrev pub invariant-loop-number : goal.invariant-loop-number
invariant-loop-number g l = (bytes : List ℕ) → reader_remaining g.D.Read.remaining l.initial.reader ≡ Some bytes
    → Collecting l.building l.until bytes (reader_remaining g.D.Read.remaining l.reader) l.deliveries.items
