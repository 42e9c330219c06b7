use Rattle.std.proofs.Common.{◌∙◌, ap, sym}
use Rattle.cli_store.specs.declared.ended.Stopped.{Stopped}
use Rattle.cli_store.proofs.GuardedLemmas.{began-own, began-telling, only-read, passed-on}
use Rattle.cli_store.proofs.server_run.serve_over.Goals as goal

pub returns-in_err-desk-clause-stopped : goal.returns-in_err-desk-clause-stopped
returns-in_err-desk-clause-stopped g c = λ kept file_bytes list_bytes file list.
    passed-on c.from_residual-in_err-desk.result c.from_residual-in_err-desk.ensures.1 (λ end same left is.
    only-read g.S.Store.standing _ _ c.in_ok-building.building _ _ file_bytes list_bytes left
    (c.in_err-desk.ensures.refused kept left (sym (ap (λ (e : Stopped _). e.store) same) ∙ is)) list (c.in_ok-building.ensures file_bytes file))

pub returns-in-Ok-clause-guarded : goal.returns-in-Ok-clause-guarded
returns-in-Ok-clause-guarded g c = λ kept file_bytes list_bytes file list left is.
    began-own g.S.Store.standing _ _ c.in_ok-building.building _ _ file_bytes list_bytes c.in_ok-desk.desk.store left _
    (c.in_ok-desk.ensures.opened kept).2 list (c.in_ok-building.ensures file_bytes file)

pub returns-in-Err-clause-stopped : goal.returns-in-Err-clause-stopped
returns-in-Err-clause-stopped g c = λ kept file_bytes list_bytes file list left is.
    began-own g.S.Store.standing _ _ c.in_ok-building.building _ _ file_bytes list_bytes c.in_ok-desk.desk.store left _
    (c.in_ok-desk.ensures.opened kept).2 list (c.in_ok-building.ensures file_bytes file)

pub returns-in-Ok-clause-told : goal.returns-in-Ok-clause-told
returns-in-Ok-clause-told g c = λ kept file_bytes list_bytes file list.
    let (otherwise, told, beside) = c.in_ok-desk.ensures.opened kept in
    began-telling g.S.Store.standing _ _ c.in_ok-building.building _ _ file_bytes list_bytes c.in_ok-desk.desk.store _ _ otherwise told beside list
    (c.in_ok-building.ensures file_bytes file)
