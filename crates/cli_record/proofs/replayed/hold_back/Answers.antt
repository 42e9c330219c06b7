use Rattle.cli_record.proofs.ReplayLemmas.{makes-left, makes-some}
use Rattle.cli_record.proofs.replayed.hold_back.Goals as goal

pub returns-then-is_none-clause-makes : goal.returns-then-is_none-clause-makes
returns-then-is_none-clause-makes g c = λ earlier lines line honest one so_far.
    makes-left _ earlier lines line c.args.last.now c.args.next (g.S.Store.standing c.args.desk.now.store) c.if-is_none.ensures one so_far

pub returns-clause-makes : goal.returns-clause-makes
returns-clause-makes g c = λ earlier lines line honest one so_far.
    makes-some _ earlier lines line c.args.last.now c.args.next (g.S.Store.standing c.args.desk.now.store)
    (g.S.Store.standing c.make.new.desk.store) c.if-is_none.ensures one (λ before holds. c.in_ok-make.ensures.made before honest holds) so_far
