use Rattle.std.proofs.Common.{◌∙◌, ap, List}
use Rattle.store.specs.Change.{with_each, with_next}
use Rattle.store.specs.declared.change.NextNumber.{NextNumber}
use Rattle.store.specs.Tables.{no_tables}
use Rattle.store_copy.proofs.NameLemmas.{next-more}
use Rattle.store_copy.proofs.panels.add_next.Goals as goal

pub returns-in_ok-push : goal.returns-in_ok-push
returns-in_ok-push c = λ q.
    ap (λ (list : List NextNumber). with_each with_next list no_tables.next q) c.in_ok-push.ensures.items
    ∙ next-more c.args.nexts.now.items c.args.panel.now c.args.next q c.if-next-ne1.true
