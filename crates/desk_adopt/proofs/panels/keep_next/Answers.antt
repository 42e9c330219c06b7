use Rattle.std.proofs.Common.{◌∙◌, ap, List}
use Rattle.desk_adopt.specs.Adopted.{no_next}
use Rattle.desk_adopt.proofs.ItemLemmas.{next-more}
use Rattle.store.specs.Change.{with_each, with_next}
use Rattle.store.specs.declared.change.NextNumber.{NextNumber}
use Rattle.desk_adopt.proofs.panels.keep_next.Goals as goal

pub returns-in_ok-push : goal.returns-in_ok-push
returns-in_ok-push c = λ q.
    ap (λ (list : List NextNumber). with_each with_next list no_next q) c.in_ok-push.ensures.items
    ∙ next-more c.args.nexts.now.items c.args.panel.now c.args.next q c.if-next-ne1.true
