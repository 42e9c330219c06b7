use Rattle.std.proofs.Common.{Ok, subst, sym}
use Rattle.cli_record.specs.Replayed.{IsReplayed}
use Rattle.cli_record.proofs.replayed.replay_record.Goals as goal

pub returns-in-Ok-clause-replayed : goal.returns-in-Ok-clause-replayed
returns-in-Ok-clause-replayed g c = λ earlier bytes holds has honest.
    let same = c.into_parts-building.ensures.store in
    let honest_then = subst (λ s. (g.T.Store.standing s).is_honest) same honest in
    subst (λ s. IsReplayed c.args.desk.building earlier bytes c.in_ok-last-in-Ok.field-0.last (g.T.Store.standing s)) (sym same)
    (c.in_ok-last-in-Ok.ensures.replayed earlier bytes (has (Ok c.in-Ok.found) c.in-Ok.ensures) honest_then holds)

pub returns-in-Ok-clause-torn : goal.returns-in-Ok-clause-torn
returns-in-Ok-clause-torn g c = λ bytes has. c.in_ok-last-in-Ok.ensures.torn bytes (has (Ok c.in-Ok.found) c.in-Ok.ensures)
