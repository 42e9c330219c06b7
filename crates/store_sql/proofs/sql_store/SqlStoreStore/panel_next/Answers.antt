use Rattle.std.specs.Result.{result_err}
use Rattle.store.specs.Standing.{Reads}
use Rattle.store_sql.specs.Standing.{standing_of}
use Rattle.store_sql_rows.proofs.UnsoundLemmas.{unsound}
use Rattle.std.proofs.Common.{IsTrue, subst, sym, true≢false, ◌∙◌}
use Rattle.store.specs.Asked.Asked.{NextOf}
use Rattle.store.specs.Asked.{Judges}
use Rattle.store_sql.proofs.StandLemmas.{judges_left, reported_left}
use Rattle.store_sql.proofs.sql_store.SqlStoreStore.panel_next.Goals as goal

pub invariant_of-self : goal.invariant_of-self
invariant_of-self g c =
    (reported_left g.S.Store c.self.inside.session c.next_of-asked.new.connection c.tell.new.self c.next_of-asked.result c.tell.result
    (λ kept. unsound kept (NextOf c.args.panel.now)) c.if-self.false c.self.invariant (λ h db. g.met.S.Store.settled h.store db)
    c.next_of-asked.ensures.answers c.tell.ensures.mode c.tell.ensures.survives c.tell.ensures.reported).fit

pub returns-clause-reads : goal.returns-clause-reads
returns-clause-reads g c =
    subst (λ s. Reads (result_err c.tell.result) (standing_of g.S.Store s) (standing_of g.S.Store c.tell.new.self)) c.self.view_is
    (reported_left g.S.Store c.self.inside.session c.next_of-asked.new.connection c.tell.new.self c.next_of-asked.result c.tell.result
    (λ kept. unsound kept (NextOf c.args.panel.now)) c.if-self.false c.self.invariant (λ h db. g.met.S.Store.settled h.store db)
    c.next_of-asked.ensures.answers c.tell.ensures.mode c.tell.ensures.survives c.tell.ensures.reported).reads

pub returns-clause-judges : goal.returns-clause-judges
returns-clause-judges g c clean =
    subst (λ s. Judges (IsTrue ((standing_of g.S.Store s).cannot_stand (NextOf c.args.panel.now))) (result_err c.tell.result)) c.self.view_is
    (judges_left (reported_left g.S.Store c.self.inside.session c.next_of-asked.new.connection c.tell.new.self c.next_of-asked.result c.tell.result
    (λ kept. unsound kept (NextOf c.args.panel.now)) c.if-self.false c.self.invariant (λ h db. g.met.S.Store.settled h.store db)
    c.next_of-asked.ensures.answers c.tell.ensures.mode c.tell.ensures.survives c.tell.ensures.reported) clean (λ it holds broken. true≢false (sym broken ∙ holds.1)))
