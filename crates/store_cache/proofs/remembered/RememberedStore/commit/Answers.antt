-- What is remembered follows a commit that succeeded, and no other.
use Rattle.store_cache.proofs.RememberLemmas.{remembers_made, remembers_refused}
use Rattle.store_cache.proofs.remembered.RememberedStore.commit.Goals as goal

pub invariant_of-self : goal.invariant_of-self
invariant_of-self g c =
    remembers_refused c.args.change.now (g.S.Store.standing c.self.inside.below) (g.S.Store.standing c.commit-answer.new.self)
    c.self.inside.memory c.self.inside.is_shut c.self.invariant c.if-self.false c.commit-answer.result
    c.is_shut_after-self-inside.result c.is_shut_after-self-inside.ensures c.commit-answer.ensures.commits
    c.in_err-answer.field-0.0 c.in_err-answer.was

pub invariant_of-self-2 : goal.invariant_of-self-2
invariant_of-self-2 g c =
    remembers_made c.args.change.now (g.S.Store.standing c.self.inside.below) (g.S.Store.standing c.commit-answer.new.self)
    c.self.inside.memory c.self.inside.is_shut c.self.invariant c.if-self.false c.commit-answer.result
    c.is_shut_after-self-inside.result c.is_shut_after-self-inside.ensures c.commit-answer.ensures.commits c.put.new.self
    c.in_ok-answer.field-0 c.in_ok-answer.was c.put.ensures
