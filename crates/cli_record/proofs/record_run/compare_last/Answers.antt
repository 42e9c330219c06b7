use Rattle.std.proofs.Common.{◌≡◌, ◌∙◌, ◌==◌, ◌++◌, ◌∷◌, [], None, length, rules, subst}
use Rattle.deliveries.specs.Tables.{tables}
use Rattle.store.proofs.ReadLemmas.{Reads-then, kept-read}
use Rattle.store.specs.Standing.{Content}
use Rattle.cli_record.specs.Differences.{AreDifferences}
use Rattle.cli_record.proofs.RunLemmas.{differ-held, found-last}
use Rattle.cli_record.proofs.record_run.compare_last.Goals as goal

pub returns-clause-reads : goal.returns-clause-reads
returns-clause-reads g c =
    Reads-then None (g.S.Store.standing c.args.store.now) (g.S.Store.standing c.compare_tables.new.store)
    (g.S.Store.standing c.compare_made.new.store) c.in_ok-unmade.ensures.reads c.in_ok-found.ensures.reads

pub returns-clause-found : goal.returns-clause-found
returns-clause-found g c = λ earlier before holds honest.
    let b = c.args.building in
    let last = c.args.last.now in
    let old = g.S.Store.standing c.args.store.now in
    let mid = g.S.Store.standing c.compare_tables.new.store in
    let other = g.T.Store.standing c.args.other in
    let other_then = g.T.Store.standing c.compare_tables.new.other in
    let found = c.in_ok-found.found.items in
    let was = c.in_ok-found.ensures.reads.goes.honest honest in
    let same = kept-read old mid c.in_ok-unmade.ensures.reads was in
    let holds_then = kept-read other other_then c.in_ok-unmade.ensures.reads_other (c.requires.honest _) ∙ holds in
    let lacks : c.is_empty.result ≡ (length c.in_ok-unmade.unmade.items == 0) = search rules in
    found-last b earlier old.content.tables before last c.in_ok-unmade.unmade.items found c.is_empty.result
    (differ-held b old.content.tables (earlier ++ before) other.content c.in_ok-unmade.unmade.items holds
    (c.in_ok-unmade.ensures.found was (c.requires.honest _)))
    (subst (λ (k : Content). AreDifferences b k.tables (tables b ((earlier ++ before) ++ last ∷ [])) found) same
    (c.in_ok-found.ensures.found (earlier ++ before) holds_then honest))
    lacks
