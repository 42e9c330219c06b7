use Rattle.std.specs.Result.{result_err}
use Rattle.store.specs.Standing.{Reads}
use Rattle.store_sql.specs.Standing.{standing_of}
use Rattle.store_sql_rows.proofs.UnsoundLemmas.{unsound}
use Rattle.std.proofs.Common.{IfOk, IsTrue, ap, subst, sym, true≢false, ◌∙◌}
use Rattle.store.specs.Asked.Asked.{AnyName}
use Rattle.store.specs.Asked.{IsSomeBroken}
use Rattle.store_sql.proofs.StandLemmas.{reported_left, value_left}
use Rattle.store_sql.proofs.sql_store.SqlStoreStore.names.Goals as goal

pub invariant_of-self : goal.invariant_of-self
invariant_of-self g c =
    (reported_left g.S.Store c.self.inside.session c.names_of-asked.new.connection c.tell.new.self c.names_of-asked.result c.tell.result
    (λ kept broken. unsound kept broken.0 broken.1) c.if-self.false c.self.invariant (λ h db. g.met.S.Store.settled h.store db)
    c.names_of-asked.ensures.answers c.tell.ensures.mode c.tell.ensures.survives c.tell.ensures.reported).fit

pub returns-clause-reads : goal.returns-clause-reads
returns-clause-reads g c =
    subst (λ s. Reads (result_err c.tell.result) (standing_of g.S.Store s) (standing_of g.S.Store c.tell.new.self)) c.self.view_is
    (reported_left g.S.Store c.self.inside.session c.names_of-asked.new.connection c.tell.new.self c.names_of-asked.result c.tell.result
    (λ kept broken. unsound kept broken.0 broken.1) c.if-self.false c.self.invariant (λ h db. g.met.S.Store.settled h.store db)
    c.names_of-asked.ensures.answers c.tell.ensures.mode c.tell.ensures.survives c.tell.ensures.reported).reads

pub returns-clause-bad : goal.returns-clause-bad
returns-clause-bad g c clean is =
    subst (λ s. IsSomeBroken (standing_of g.S.Store s).cannot_stand) c.self.view_is
    ((reported_left g.S.Store c.self.inside.session c.names_of-asked.new.connection c.tell.new.self c.names_of-asked.result c.tell.result
    (λ kept broken. unsound kept broken.0 broken.1) c.if-self.false c.self.invariant (λ h db. g.met.S.Store.settled h.store db)
    c.names_of-asked.ensures.answers c.tell.ensures.mode c.tell.ensures.survives c.tell.ensures.reported).bad clean (ap result_err is))

pub returns-clause-stood : goal.returns-clause-stood
returns-clause-stood g c clean =
    subst (λ s. IfOk c.tell.result (λ names. IsTrue ((standing_of g.S.Store s).cannot_stand AnyName) → ⊥)) c.self.view_is
    (value_left (reported_left g.S.Store c.self.inside.session c.names_of-asked.new.connection c.tell.new.self c.names_of-asked.result c.tell.result
    (λ kept broken. unsound kept broken.0 broken.1) c.if-self.false c.self.invariant (λ h db. g.met.S.Store.settled h.store db)
    c.names_of-asked.ensures.answers c.tell.ensures.mode c.tell.ensures.survives c.tell.ensures.reported) clean _ (λ it holds broken. true≢false (sym broken ∙ holds.1.names)))
