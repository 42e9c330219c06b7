use Rattle.std.proofs.Common.{◌≡◌, ◌∙◌, ◌∷◌, ◌++◌, [], None, subst, sym}
use Rattle.deliveries.specs.Tables.{tables}
use Rattle.store.proofs.ReadLemmas.{IsOpen-read, Reads-then, kept-read}
use Rattle.store.specs.Standing.{Content}
use Rattle.cli_record.specs.Belonging.{IsMatched, TellsFirst, TellsOtherwise}
use Rattle.cli_record.specs.declared.belonging.First.{First}
use Rattle.cli_record.proofs.MatchLemmas.{matched-alone, matched-both, matched-first, nothing-found, otherwise-alone, otherwise-both, otherwise-nothing, something-found}
use Rattle.cli_record.proofs.replayed.Replayed.matched.Goals as goal

pub returns-then-not-has_any-clause-matched : goal.returns-then-not-has_any-clause-matched
returns-then-not-has_any-clause-matched g c = λ earlier bytes is honest.
    let first = c.in-Ok.found in
    matched-first c.args.self.building earlier bytes (g.S.Store.standing c.args.store.now).content.tables c.args.self.last
    (g.T.Store.standing c.args.self.store) is first (c.in-Ok.ensures.found honest (c.requires.honest _))
    (nothing-found first (sym c.if-not-has_any.ensures)).0

pub returns-then-not-has_any-clause-otherwise : goal.returns-then-not-has_any-clause-otherwise
returns-then-not-has_any-clause-otherwise g c = λ earlier bytes is honest none.
    let first = c.in-Ok.found in
    otherwise-nothing c.args.self.building earlier bytes (g.S.Store.standing c.args.store.now).content.tables c.args.self.last
    (g.T.Store.standing c.args.self.store) is first (c.in-Ok.ensures.found honest (c.requires.honest _))
    (nothing-found first (sym c.if-not-has_any.ensures))

pub found_with_last-requires-clause-open : goal.found_with_last-requires-clause-open
found_with_last-requires-clause-open g c =
    IsOpen-read (g.S.Store.standing c.args.store.now) (g.S.Store.standing c.first_found.new.store) c.in-Ok.ensures.reads

pub returns-in-Ok-found_with_last-clause-reads : goal.returns-in-Ok-found_with_last-clause-reads
returns-in-Ok-found_with_last-clause-reads g c =
    Reads-then _ (g.S.Store.standing c.args.store.now) (g.S.Store.standing c.first_found.new.store)
    (g.S.Store.standing c.found_with_last.new.store) c.in-Ok.ensures.reads c.in-Ok-found_with_last.ensures.reads

pub returns-in-Some-clause-reads : goal.returns-in-Some-clause-reads
returns-in-Some-clause-reads g c =
    Reads-then _ (g.S.Store.standing c.args.store.now) (g.S.Store.standing c.first_found.new.store)
    (g.S.Store.standing c.found_with_last.new.store) c.in-Ok.ensures.reads c.in-Err-found_with_last.ensures.reads

pub returns-in-Ok-found_with_last-clause-matched : goal.returns-in-Ok-found_with_last-clause-matched
returns-in-Ok-found_with_last-clause-matched g c = λ earlier bytes is honest.
    let b = c.args.self.building in
    let old = g.S.Store.standing c.args.store.now in
    let other = g.T.Store.standing c.args.self.store in
    let all = c.in-Ok-found_with_last.all.found in
    let was = c.in-Ok-found_with_last.ensures.reads.goes.honest honest in
    let same = kept-read old (g.S.Store.standing c.first_found.new.store) c.in-Ok.ensures.reads was in
    let held = kept-read other (g.T.Store.standing c.first_found.new.other) c.in-Ok.ensures.reads_other (c.requires.honest _)
    ∙ is.back.holds in
    let made = tables b ((earlier ++ is.made) ++ c.in-Some.last ∷ []) in
    let told = subst (λ (k : Content). TellsFirst b k.tables made all.difference all.otherwise) same
    (c.in-Ok-found_with_last.ensures.found (earlier ++ is.made) held honest) in
    subst (λ (first : First). IsMatched b earlier bytes old.content.tables first.difference) (sym c.of_both.ensures)
    (matched-both b earlier bytes old.content.tables c.args.self.last other is c.in-Ok.found
    (c.in-Ok.ensures.found was (c.requires.honest _)) c.in-Some.last c.in-Some.is all told)

pub returns-in-Ok-found_with_last-clause-otherwise : goal.returns-in-Ok-found_with_last-clause-otherwise
returns-in-Ok-found_with_last-clause-otherwise g c = λ earlier bytes is honest none.
    let b = c.args.self.building in
    let old = g.S.Store.standing c.args.store.now in
    let other = g.T.Store.standing c.args.self.store in
    let all = c.in-Ok-found_with_last.all.found in
    let was = c.in-Ok-found_with_last.ensures.reads.goes.honest honest in
    let same = kept-read old (g.S.Store.standing c.first_found.new.store) c.in-Ok.ensures.reads was in
    let held = kept-read other (g.T.Store.standing c.first_found.new.other) c.in-Ok.ensures.reads_other (c.requires.honest _)
    ∙ is.back.holds in
    let made = tables b ((earlier ++ is.made) ++ c.in-Some.last ∷ []) in
    let told = subst (λ (k : Content). TellsFirst b k.tables made all.difference all.otherwise) same
    (c.in-Ok-found_with_last.ensures.found (earlier ++ is.made) held honest) in
    subst (λ (first : First). TellsOtherwise b earlier bytes old.content.tables first.otherwise) (sym c.of_both.ensures)
    (otherwise-both b earlier bytes old.content.tables c.args.self.last other is c.in-Ok.found
    (c.in-Ok.ensures.found was (c.requires.honest _)) c.in-Some.last c.in-Some.is all told
    (something-found c.in-Ok.found (sym c.if-not-has_any.ensures))
    (subst (λ (first : First). first.difference ≡ None) c.of_both.ensures none))

pub returns-clause-matched : goal.returns-clause-matched
returns-clause-matched g c = λ earlier bytes is honest.
    matched-alone c.args.self.building earlier bytes (g.S.Store.standing c.args.store.now).content.tables c.args.self.last
    (g.T.Store.standing c.args.self.store) is c.in-Ok.found (c.in-Ok.ensures.found honest (c.requires.honest _)) c.in-None.is

pub returns-clause-otherwise : goal.returns-clause-otherwise
returns-clause-otherwise g c = λ earlier bytes is honest none.
    otherwise-alone c.args.self.building earlier bytes (g.S.Store.standing c.args.store.now).content.tables c.args.self.last
    (g.T.Store.standing c.args.self.store) is c.in-Ok.found (c.in-Ok.ensures.found honest (c.requires.honest _)) c.in-None.is none
