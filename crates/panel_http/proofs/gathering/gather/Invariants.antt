-- What the reads took so far stands behind what had come, and none has failed.
use Rattle.std.proofs.Common.{◌≡◌}
use Rattle.panel_http.specs.Gathering.{Takes}
use Rattle.panel_http.proofs.gathering.gather.Given as goal

abbrev pub invariant-loop : goal.invariant-loop
invariant-loop g l =
    Takes (g.R.Read.remaining l.initial.reader.inner) (g.R.Read.remaining l.reader.inner) l.initial.come.items l.come.items
    × (l.reader.failures ≡ l.initial.reader.failures)
