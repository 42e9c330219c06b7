use Rattle.std.proofs.Common.{◌++◌, ◌∷◌, []}
use Rattle.cli_record.proofs.RunLemmas.{differ-held}
use Rattle.cli_record.proofs.record_run.compare_made.Goals as goal

pub returns-clause-found : goal.returns-clause-found
returns-clause-found g c = λ earlier holds honest.
    let held = (g.S.Store.standing c.args.store.now).content.tables in
    differ-held c.args.building held (earlier ++ c.args.last.now ∷ []) (g.T.Store.standing c.in_ok-building.other).content
    c.in_ok-found.found.items (c.in_ok-building.ensures.made earlier holds (c.requires.honest _))
    (rw c.in_ok-building.ensures.building at (c.in_ok-found.ensures.found honest (c.requires.honest _)))
