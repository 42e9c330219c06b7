-- What is known is answered from memory; what the store below answers is known from then on.
use Rattle.std.proofs.Common.{◌≡◌, None, sym, subst, ◌∙◌}
use Rattle.std.specs.Bool.{IsTrue}
use Rattle.store.specs.Asked.{Judges}
use Rattle.store.specs.Asked.Asked.{ArrayOf}
use Rattle.store_cache.proofs.RememberLemmas.{answered_is, answered_stands, judged, remembers_more}
use Rattle.store_cache.specs.Remembering.{Remembers}
use Rattle.store_cache.proofs.remembered.RememberedStore.array.Given as given
use Rattle.store_cache.proofs.remembered.RememberedStore.array.Goals.{After-keep_array}
use Rattle.store_cache.proofs.remembered.RememberedStore.array.Goals as goal

pub returns-in-Some-clause-value : goal.returns-in-Some-clause-value
returns-in-Some-clause-value g c =
    subst (λ s. (g.S.Store.standing s).is_honest → c.in_ok-clone.field-0 ≡ (g.S.Store.standing s).content.tables.places c.args.point.now)
    c.self.view_is
    (λ honest. let before = g.S.Store.standing c.self.inside.below in
    c.in_ok-clone.ensures.cases
    ∙ sym (c.in-Some.ensures before.content.tables before.cannot_stand (c.self.invariant.recalls honest c.if-self.false)).0)

pub returns-in-Some-clause-judges : goal.returns-in-Some-clause-judges
returns-in-Some-clause-judges g c =
    subst (λ s. (g.S.Store.standing s).is_honest → Judges (IsTrue ((g.S.Store.standing s).cannot_stand (ArrayOf c.args.point.now))) None) c.self.view_is
    (λ honest. let before = g.S.Store.standing c.self.inside.below in
    judged (before.cannot_stand (ArrayOf c.args.point.now))
    (c.in-Some.ensures before.content.tables before.cannot_stand (c.self.invariant.recalls honest c.if-self.false)).1)

-- what the store below has answered is remembered, beside what was
remembers : (g : given.Over) (c : After-keep_array g)
    → Remembers (g.S.Store.standing c.array-answer.new.self) c.keep_array.new.self c.is_shut_after-self-inside.result
remembers g c =
    let before = g.S.Store.standing c.self.inside.below in
    remembers_more c.array-answer.result c.in_ok-array.array c.in_ok-array.was before
    (g.S.Store.standing c.array-answer.new.self) c.self.inside.memory c.keep_array.new.self c.self.inside.is_shut
    c.is_shut_after-self-inside.result c.self.invariant c.if-self.false c.is_shut_after-self-inside.ensures
    c.array-answer.ensures.reads
    (λ honest recalls. c.keep_array.ensures before.content.tables before.cannot_stand recalls
    (sym (answered_is c.array-answer.result c.in_ok-array.array c.in_ok-array.was
    (λ it. it ≡ before.content.tables.places c.args.point.now) (c.array-answer.ensures.value honest)) ∙ sym c.in_ok-clone-2.ensures.cases)
    (answered_stands c.array-answer.result c.in_ok-array.array c.in_ok-array.was (before.cannot_stand (ArrayOf c.args.point.now))
    (c.array-answer.ensures.judges honest)))

pub invariant_of-self-in_err-keep_array : goal.invariant_of-self-in_err-keep_array
invariant_of-self-in_err-keep_array g c = remembers g (goal.at.invariant_of-self-in_err-keep_array g c).After-keep_array

pub invariant_of-self-2 : goal.invariant_of-self-2
invariant_of-self-2 g c = remembers g (goal.at.invariant_of-self-2 g c).After-keep_array
