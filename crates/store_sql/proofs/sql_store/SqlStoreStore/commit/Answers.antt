use Rattle.std.proofs.Common.{None, Some, refl, subst}
use Rattle.sqlite.specs.Held.{state}
use Rattle.store.specs.Standing.{Commits}
use Rattle.store_sql.specs.Standing.{standing_of}
use Rattle.store_sql.proofs.CommitLemmas.{commit_left, commit_made}
use Rattle.store_sql.proofs.sql_store.SqlStoreStore.commit.Goals as goal

pub returns-in-Err : goal.returns-in-Err
returns-in-Err g c = record {
  commits =
      subst (λ s. Commits c.args.change.now (Some c.refuse.result) (standing_of g.S.Store s)
      (standing_of g.S.Store c.refuse.new.self)) c.self.view_is
      (commit_left g.S.Store c.args.change.now c.self.inside.session
      (record {
        connection = c.commit_change.new.connection;
        failures = c.self.inside.session.failures;
        is_shut = c.self.inside.session.is_shut;
      })
      c.refuse.new.self c.refuse.result refl refl c.if-self.false c.self.invariant (λ h db. g.met.S.Store.settled h.store db)
      c.commit_change.ensures.mode c.in-Err.ensures.undone c.commit_change.ensures.survives c.refuse.ensures.mode
      c.refuse.ensures.survives c.refuse.ensures.reported).1;
}

pub returns-in-Ok : goal.returns-in-Ok
returns-in-Ok g c = record {
  commits = subst (λ s. Commits c.args.change.now None (standing_of g.S.Store s)
      (standing_of g.S.Store (record {
        connection = c.commit_change.new.connection;
        failures = c.self.inside.session.failures;
        is_shut = c.self.inside.session.is_shut;
      }))) c.self.view_is
      (commit_made c.args.change.now (state g.S.Store c.self.inside.session.connection)
      (state g.S.Store c.commit_change.new.connection) c.self.inside.session.failures
      c.self.inside.session.is_shut c.if-self.false c.self.invariant
      (λ db. g.met.S.Store.settled c.self.inside.session.connection.store db)
      (λ db. g.met.S.Store.settled c.commit_change.new.connection.store db)
      c.commit_change.ensures.mode c.commit_change.ensures.survives c.in-Ok.ensures.made c.self.inside.session.is_shut refl).1;
}
