use Rattle.std.proofs.Common.{◌≡◌, drop}
use Rattle.cli_record.specs.SentRuns.{first_unlike}
use Rattle.cli_record.proofs.sent_runs.first_unlike.Given as goal

-- what is left of both runs differs where the runs do
abbrev pub invariant-loop-index : goal.invariant-loop-index
invariant-loop-index l = first_unlike l.held l.recorded ≡ first_unlike (drop l.index l.held) (drop l.index l.recorded)
