use Rattle.std.proofs.Common.{◌≡◌, ◌++◌, ◌∷◌, [], List, subst, sym}
use Rattle.deliveries.specs.declared.delivery.Delivery.{Delivery}
use Rattle.cli_record.specs.RecordRun.{AreFound}
use Rattle.cli_record.proofs.BesideLemmas.{if-ok}
use Rattle.cli_record.proofs.RunLemmas.{no-deliveries}
use Rattle.cli_record.proofs.record_run.compare_list.Goals as goal

pub returns-in-None-clause-found : goal.returns-in-None-clause-found
returns-in-None-clause-found g c = λ earlier holds honest.
    let none = no-deliveries c.args.deliveries.now c.in-None.ensures.cases in
    if-ok c.compare_desk.result (λ compared are.
    subst (λ (ds : List Delivery). AreFound c.args.desk.building earlier ds (g.S.Store.standing c.args.store.now).content.tables
    compared.found.items compared.lacks_last) (sym none) are)
    (c.compare_desk.ensures.found earlier holds honest)

pub returns-in_ok-building-in-Some-clause-found : goal.returns-in_ok-building-in-Some-clause-found
returns-in_ok-building-in-Some-clause-found g c = λ earlier holds honest.
    let b = c.args.desk.building in
    let are : c.args.deliveries.now ≡ c.in-Some.before.now ++ c.in-Some.last.now ∷ [] = c.in-Some.ensures.cases.0 in
    if-ok c.compare_last.result (λ compared found.
    subst (λ (ds : List Delivery). AreFound b earlier ds (g.S.Store.standing c.args.store.now).content.tables
    compared.found.items compared.lacks_last) (sym are) found)
    ((rw c.in_ok-building-in-Some.ensures.building at c.compare_last.ensures.found) earlier c.in-Some.before.now
    (c.in_ok-building-in-Some.ensures.made earlier holds (c.requires.honest _)) honest)
