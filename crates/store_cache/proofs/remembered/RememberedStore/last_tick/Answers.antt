-- What is known is answered from memory; what the store below answers is known from then on.
use Rattle.std.proofs.Common.{◌≡◌, None, sym, subst}
use Rattle.std.specs.Bool.{IsTrue}
use Rattle.store.specs.Asked.{Judges}
use Rattle.store.specs.Asked.Asked.{LastTick}
use Rattle.store_cache.proofs.RememberLemmas.{answered_is, answered_stands, judged, remembers_more}
use Rattle.store_cache.proofs.remembered.RememberedStore.last_tick.Goals as goal

pub returns-in-Some-clause-value : goal.returns-in-Some-clause-value
returns-in-Some-clause-value g c =
    subst (λ s. (g.S.Store.standing s).is_honest → c.in-Some.last_tick ≡ (g.S.Store.standing s).content.tables.last_tick) c.self.view_is
    (λ honest. let before = g.S.Store.standing c.self.inside.below in
    sym (c.in-Some.ensures before.content.tables before.cannot_stand (c.self.invariant.recalls honest c.if-self.false)).0)

pub returns-in-Some-clause-judges : goal.returns-in-Some-clause-judges
returns-in-Some-clause-judges g c =
    subst (λ s. (g.S.Store.standing s).is_honest → Judges (IsTrue ((g.S.Store.standing s).cannot_stand (LastTick))) None) c.self.view_is
    (λ honest. let before = g.S.Store.standing c.self.inside.below in
    judged (before.cannot_stand (LastTick))
    (c.in-Some.ensures before.content.tables before.cannot_stand (c.self.invariant.recalls honest c.if-self.false)).1)

pub invariant_of-self-2 : goal.invariant_of-self-2
invariant_of-self-2 g c =
    let before = g.S.Store.standing c.self.inside.below in
    remembers_more c.last_tick-answer.result c.in_ok-last_tick.last_tick c.in_ok-last_tick.was before
    (g.S.Store.standing c.last_tick-answer.new.self) c.self.inside.memory c.keep_last_tick.new.self c.self.inside.is_shut
    c.is_shut_after-self-inside.result c.self.invariant c.if-self.false c.is_shut_after-self-inside.ensures
    c.last_tick-answer.ensures.reads
    (λ honest recalls. c.keep_last_tick.ensures before.content.tables before.cannot_stand recalls
    (sym (answered_is c.last_tick-answer.result c.in_ok-last_tick.last_tick c.in_ok-last_tick.was (λ it. it ≡ before.content.tables.last_tick)
    (c.last_tick-answer.ensures.value honest)))
    (answered_stands c.last_tick-answer.result c.in_ok-last_tick.last_tick c.in_ok-last_tick.was (before.cannot_stand (LastTick))
    (c.last_tick-answer.ensures.judges honest)))
