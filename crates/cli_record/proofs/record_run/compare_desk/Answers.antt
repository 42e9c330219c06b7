use Rattle.cli_record.proofs.RunLemmas.{differ-held, found-none}
use Rattle.cli_record.proofs.record_run.compare_desk.Goals as goal

pub returns-clause-found : goal.returns-clause-found
returns-clause-found g c = λ earlier holds honest.
    let b = c.args.desk.building in
    let held = (g.S.Store.standing c.args.store.now).content.tables in
    found-none b earlier held c.in_ok-found.found.items
    (differ-held b held earlier (g.T.Store.standing c.args.desk.store).content c.in_ok-found.found.items holds
    (rw (c.into_parts-building.ensures.building, c.into_parts-building.ensures.store)
    at (c.in_ok-found.ensures.found honest (c.requires.honest _))))
