use Rattle.std.proofs.Common.{Ok, ◌∙◌, sym}
use Rattle.cli_store.proofs.GuardedLemmas.{passed-on}
use Rattle.cli_store.proofs.RecordedLemmas.{behind-still}
use Rattle.cli_store.proofs.answering.open_kept.Goals as goal

pub returns-in_err-open_own-clause-refused : goal.returns-in_err-open_own-clause-refused
returns-in_err-open_own-clause-refused g c = λ kept. passed-on c.from_residual.result c.from_residual.ensures.1 (λ end same left is.
    c.in_err-open_own.ensures.refused left (sym same ∙ is))

pub returns-clause-holds : goal.returns-clause-holds
returns-clause-holds g c = λ earlier opens honest.
    let (otherwise, told, beside) = c.in_ok-open_own.ensures.opened in
    beside.reads.still.kept honest beside.is_open ∙ opens (Ok beside.reads.opened) beside.reads.is_opened

pub returns-clause-behind : goal.returns-clause-behind
returns-clause-behind g c = λ earlier deliveries opens honest.
    let (otherwise, told, beside) = c.in_ok-open_own.ensures.opened in
    behind-still c.args.building earlier deliveries (g.S.Store.standing beside.reads.opened) (g.S.Store.standing c.in_ok-open_own.field-0.store)
    beside.reads.still beside.was_open honest (opens (Ok beside.reads.opened) beside.reads.is_opened)
