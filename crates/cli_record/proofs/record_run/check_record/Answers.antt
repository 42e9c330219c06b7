use Rattle.std.proofs.Common.{inr, string_bytes}
use Rattle.cli_record.proofs.record_run.check_record.Goals as goal

pub returns-in-Ok-clause-no_more : goal.returns-in-Ok-clause-no_more
returns-in-Ok-clause-no_more g c = λ file_bytes list_bytes file list.
    inr (
      c.in-Ok.comparison.status,
      string_bytes c.in-Ok.comparison.text,
      c.in-Ok.comparison.store,
      c.in-Ok.ensures file_bytes list_bytes file list,
      c.print_comparison.ensures.no_more,
    )
