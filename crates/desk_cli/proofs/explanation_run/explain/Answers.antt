use Rattle.cli_common.proofs.PrintedLemmas.{Keeps-same}
use Rattle.desk_cli.proofs.ExplainedLemmas.{explains-Keeps}
use Rattle.desk_cli.proofs.explanation_run.explain.Goals as goal

pub returns-in-Ok : goal.returns-in-Ok
returns-in-Ok g c = record { done = λ e. c.in-Ok.ensures.done; quiet = λ e. Keeps-same _; no_more = c.in-Ok.ensures.no_more }

pub returns-in-Err : goal.returns-in-Err
returns-in-Err g c = record {
  done = λ e file_bytes list_bytes earlier file list stands. absurd (c.status.ensures e);
  quiet = λ e. absurd (c.status.ensures e);
  no_more = λ file_bytes list_bytes earlier file list stands. explains-Keeps file_bytes earlier list_bytes _ _ _ _ _
      (c.in-Err.ensures.no_more file_bytes list_bytes earlier file list stands) c.flush.ensures.bytes;
}
