use Rattle.std.proofs.Common.{refl}
use Rattle.cli_store.proofs.delivery_run.deliver.Goals as goal

pub returns-in-Ok-clause-recorded : goal.returns-in-Ok-clause-recorded
returns-in-Ok-clause-recorded g c = λ done kept file_bytes file.
    let recorded = c.in-Ok.ensures.recorded kept file_bytes file in
    (c.in-Ok.field-0.store, recorded.0, refl, recorded.1, recorded.2)
