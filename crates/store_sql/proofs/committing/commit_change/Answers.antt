use Rattle.std.proofs.Common.{◌≡◌, subst, rules}
use Rattle.sqlite_trees.specs.Tree.{Trees}
use Rattle.sqlite.specs.State.{Survives}
use Rattle.sqlite.specs.Held.{state}
use Rattle.store.specs.Change.{with_change}
use Rattle.store_sql_rows.specs.Ours.{IsOurs, Makes, kept_in}
use Rattle.store_sql.proofs.TransactionLemmas.{not_committed, survives_whole}
use Rattle.store_sql.proofs.committing.commit_change.Goals as goal

pub returns-clause-survives : goal.returns-clause-survives
returns-clause-survives g c =
    let old = c.args.connection.now in
    let mid = c.write.new.transaction.conn.now in
    let change = c.args.change.now in
    let same : c.commit-committed.new.self.0 ≡ c.connection-2-1.given.0 = search rules in
    let P =
    λ (trees : Trees). IsOurs (state g.S.Store old).now
    → Makes (with_change change) (kept_in (state g.S.Store old).now.trees) (kept_in trees) in
    subst (λ h. Survives (state g.S.Store old) (state g.S.Store h) P) same
    (survives_whole g.S.Store old mid c.commit-committed.new.self.0 change _
    (rw c.transaction-transaction.ensures.begun at c.in_ok-write.ensures.moves.steps)
    c.commit-committed.ensures.survives)

pub returns-clause-undone : goal.returns-clause-undone
returns-clause-undone g c =
    not_committed g.S.Store c.args.connection.now c.write.new.transaction.conn.now c.connection-2-1.given.0 c.commit-committed.result
    c.commit-committed.new.self.0 (search rules) c.commit-committed.ensures.survives
    (λ clean. rw c.transaction-transaction.ensures.begun at (c.in_ok-write.ensures.moves.steps.kept clean)) c.commit-committed.ensures.err
    c.commit-committed.ensures.ended _ c.is_autocommit-settled.ensures.value c.is_autocommit-settled.ensures.settled
