use Rattle.std.proofs.Common.{subst, sym}
use Rattle.cli_record.specs.Belonging.{TellsOtherwise}
use Rattle.cli_record.proofs.BesideLemmas.{if-err, if-ok, opens-over, refuses-over}
use Rattle.cli_record.proofs.beside.open_over.Goals as goal

pub returns-in-Ok-clause-opened : goal.returns-in-Ok-clause-opened
returns-in-Ok-clause-opened g c =
    if-ok c.desk_over.result (λ it is. opens-over c.args.replayed.building c.args.replayed.last
    (g.T.Store.standing c.args.replayed.store) (g.S.Store.standing c.args.store) (g.S.Store.standing c.matched.new.store)
    c.in-Ok.matched.found.difference c.in-Ok.ensures.reads c.in-Ok.ensures.matched c.in-Ok.matched.building it.otherwise
    (g.S.Store.standing it.desk.store) is.0 is.3
    (λ earlier bytes replayed honest. subst (TellsOtherwise c.args.replayed.building earlier bytes
    (g.S.Store.standing c.args.store).content.tables) (sym is.2) (c.in-Ok.ensures.otherwise earlier bytes replayed honest is.0)))
    c.desk_over.ensures.opened

pub returns-in-Ok-clause-refused : goal.returns-in-Ok-clause-refused
returns-in-Ok-clause-refused g c =
    if-err c.desk_over.result (λ end is. (
      is.1.0,
      is.1.1,
      refuses-over c.args.replayed.building c.args.replayed.last
          (g.T.Store.standing c.args.replayed.store) (g.S.Store.standing c.args.store) (g.S.Store.standing c.matched.new.store)
          c.in-Ok.matched.found.difference c.in-Ok.ensures.reads c.in-Ok.ensures.matched end.fault (g.S.Store.standing is.1.0) is.0 is.1.2,
    ))
    c.desk_over.ensures.refused
