use Rattle.std.proofs.Common.{◌≡◌, subst, rules}
use Rattle.sqlite_trees.specs.Tree.{Trees}
use Rattle.sqlite.specs.State.{Survives}
use Rattle.sqlite.specs.Held.{state}
use Rattle.store_sql_rows.specs.Ours.{IsOurs}
use Rattle.store_sql.specs.Opening.{IsChangedBy}
use Rattle.store_sql.proofs.TransactionLemmas.{not_committed}
use Rattle.store_sql.proofs.RaiseLemmas.{survives_raised}
use Rattle.store_sql.proofs.raising.commit_raised.Goals as goal

pub returns-clause-survives : goal.returns-clause-survives
returns-clause-survives g c =
    let old = c.args.connection.now in
    let mid = c.raise.new.transaction.conn.now in
    let dropped = c.args.dropped.now in
    let same : c.commit-committed.new.self.0 ≡ c.connection-2-1.given.0 = search rules in
    let P = λ (trees : Trees). IsOurs (state g.S.Store old).now → IsChangedBy dropped (state g.S.Store old).now.trees trees in
    subst (λ h. Survives (state g.S.Store old) (state g.S.Store h) P) same
    (survives_raised g.S.Store old mid c.commit-committed.new.self.0 dropped _
    (rw c.transaction-transaction.ensures.begun at c.in_ok-raise.ensures.moves.steps)
    c.commit-committed.ensures.survives)

pub returns-clause-undone : goal.returns-clause-undone
returns-clause-undone g c =
    not_committed g.S.Store c.args.connection.now c.raise.new.transaction.conn.now c.connection-2-1.given.0 c.commit-committed.result
    c.commit-committed.new.self.0 (search rules) c.commit-committed.ensures.survives
    (λ clean. rw c.transaction-transaction.ensures.begun at (c.in_ok-raise.ensures.moves.steps.kept clean)) c.commit-committed.ensures.err
    c.commit-committed.ensures.ended _ c.is_autocommit-settled.ensures.value c.is_autocommit-settled.ensures.settled
