-- What is known is answered from memory; what the store below answers is known from then on.
use Rattle.std.proofs.Common.{None, sym, subst, ◌∙◌}
use Rattle.store.specs.Listed.{AreEntries}
use Rattle.std.specs.Bool.{IsTrue}
use Rattle.store.specs.Asked.{Judges}
use Rattle.store.specs.Asked.Asked.{EntriesOf}
use Rattle.store_cache.proofs.RememberLemmas.{answered_is, answered_stands, judged, remembers_more}
use Rattle.store_cache.specs.Remembering.{Remembers}
use Rattle.store_cache.proofs.remembered.RememberedStore.entries.Given as given
use Rattle.store_cache.proofs.remembered.RememberedStore.entries.Goals.{After-keep_entries}
use Rattle.store_cache.proofs.remembered.RememberedStore.entries.Goals as goal

pub returns-in-Some-clause-value : goal.returns-in-Some-clause-value
returns-in-Some-clause-value g c =
    subst (λ s. (g.S.Store.standing s).is_honest → AreEntries (g.S.Store.standing s).content.tables c.args.calendar.now
    c.in_ok-from_slice.field-0.items) c.self.view_is
    (λ honest. let before = g.S.Store.standing c.self.inside.below in
    subst (λ l. AreEntries before.content.tables c.args.calendar.now l) (sym (c.in_ok-from_slice.ensures.items ∙ c.as_slice.ensures))
    (c.in-Some.ensures before.content.tables before.cannot_stand (c.self.invariant.recalls honest c.if-self.false)).0)

pub returns-in-Some-clause-judges : goal.returns-in-Some-clause-judges
returns-in-Some-clause-judges g c =
    subst (λ s. (g.S.Store.standing s).is_honest → Judges (IsTrue ((g.S.Store.standing s).cannot_stand (EntriesOf c.args.calendar.now))) None) c.self.view_is
    (λ honest. let before = g.S.Store.standing c.self.inside.below in
    judged (before.cannot_stand (EntriesOf c.args.calendar.now))
    (c.in-Some.ensures before.content.tables before.cannot_stand (c.self.invariant.recalls honest c.if-self.false)).1)

-- what the store below has answered is remembered, beside what was
remembers : (g : given.Over) (c : After-keep_entries g)
    → Remembers (g.S.Store.standing c.entries-answer.new.self) c.keep_entries.new.self c.is_shut_after-self-inside.result
remembers g c =
    let before = g.S.Store.standing c.self.inside.below in
    remembers_more c.entries-answer.result c.in_ok-entries.entries c.in_ok-entries.was before
    (g.S.Store.standing c.entries-answer.new.self) c.self.inside.memory c.keep_entries.new.self c.self.inside.is_shut
    c.is_shut_after-self-inside.result c.self.invariant c.if-self.false c.is_shut_after-self-inside.ensures
    c.entries-answer.ensures.reads
    (λ honest recalls. c.keep_entries.ensures before.content.tables before.cannot_stand recalls
    (subst (λ l. AreEntries before.content.tables c.args.calendar.now l)
    (sym (c.from_vec.ensures ∙ c.in_ok-kept.ensures.items ∙ c.as_slice-2.ensures.value))
    (answered_is c.entries-answer.result c.in_ok-entries.entries c.in_ok-entries.was
    (λ it. AreEntries before.content.tables c.args.calendar.now it.items) (c.entries-answer.ensures.value honest)))
    (answered_stands c.entries-answer.result c.in_ok-entries.entries c.in_ok-entries.was (before.cannot_stand (EntriesOf c.args.calendar.now))
    (c.entries-answer.ensures.judges honest)))

pub invariant_of-self-in_err-keep_entries : goal.invariant_of-self-in_err-keep_entries
invariant_of-self-in_err-keep_entries g c = remembers g (goal.at.invariant_of-self-in_err-keep_entries g c).After-keep_entries

pub invariant_of-self-2 : goal.invariant_of-self-2
invariant_of-self-2 g c = remembers g (goal.at.invariant_of-self-2 g c).After-keep_entries
