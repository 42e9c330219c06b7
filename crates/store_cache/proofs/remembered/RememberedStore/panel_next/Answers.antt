-- What is known is answered from memory; what the store below answers is known from then on.
use Rattle.std.proofs.Common.{◌≡◌, None, sym, subst}
use Rattle.std.specs.Bool.{IsTrue}
use Rattle.store.specs.Asked.{Judges}
use Rattle.store.specs.Asked.Asked.{NextOf}
use Rattle.store_cache.proofs.RememberLemmas.{answered_is, answered_stands, judged, remembers_more}
use Rattle.store_cache.specs.Remembering.{Remembers}
use Rattle.store_cache.proofs.remembered.RememberedStore.panel_next.Given as given
use Rattle.store_cache.proofs.remembered.RememberedStore.panel_next.Goals.{After-keep_next}
use Rattle.store_cache.proofs.remembered.RememberedStore.panel_next.Goals as goal

pub returns-in-Some-clause-value : goal.returns-in-Some-clause-value
returns-in-Some-clause-value g c =
    subst (λ s. (g.S.Store.standing s).is_honest → c.in-Some.next ≡ (g.S.Store.standing s).content.tables.next c.args.panel.now) c.self.view_is
    (λ honest. let before = g.S.Store.standing c.self.inside.below in
    sym (c.in-Some.ensures before.content.tables before.cannot_stand (c.self.invariant.recalls honest c.if-self.false)).0)

pub returns-in-Some-clause-judges : goal.returns-in-Some-clause-judges
returns-in-Some-clause-judges g c =
    subst (λ s. (g.S.Store.standing s).is_honest → Judges (IsTrue ((g.S.Store.standing s).cannot_stand (NextOf c.args.panel.now))) None) c.self.view_is
    (λ honest. let before = g.S.Store.standing c.self.inside.below in
    judged (before.cannot_stand (NextOf c.args.panel.now))
    (c.in-Some.ensures before.content.tables before.cannot_stand (c.self.invariant.recalls honest c.if-self.false)).1)

-- what the store below has answered is remembered, beside what was
remembers : (g : given.Over) (c : After-keep_next g)
    → Remembers (g.S.Store.standing c.panel_next-answer.new.self) c.keep_next.new.self c.is_shut_after-self-inside.result
remembers g c =
    let before = g.S.Store.standing c.self.inside.below in
    remembers_more c.panel_next-answer.result c.in_ok-next.next c.in_ok-next.was before
    (g.S.Store.standing c.panel_next-answer.new.self) c.self.inside.memory c.keep_next.new.self c.self.inside.is_shut
    c.is_shut_after-self-inside.result c.self.invariant c.if-self.false c.is_shut_after-self-inside.ensures
    c.panel_next-answer.ensures.reads
    (λ honest recalls. c.keep_next.ensures before.content.tables before.cannot_stand recalls
    (sym (answered_is c.panel_next-answer.result c.in_ok-next.next c.in_ok-next.was (λ it. it ≡ before.content.tables.next c.args.panel.now)
    (c.panel_next-answer.ensures.value honest)))
    (answered_stands c.panel_next-answer.result c.in_ok-next.next c.in_ok-next.was (before.cannot_stand (NextOf c.args.panel.now))
    (c.panel_next-answer.ensures.judges honest)))

pub invariant_of-self-in_err-keep_next : goal.invariant_of-self-in_err-keep_next
invariant_of-self-in_err-keep_next g c = remembers g (goal.at.invariant_of-self-in_err-keep_next g c).After-keep_next

pub invariant_of-self-2 : goal.invariant_of-self-2
invariant_of-self-2 g c = remembers g (goal.at.invariant_of-self-2 g c).After-keep_next
