use Rattle.sqlite.specs.Held.{state}
use Rattle.store_sql_rows.proofs.CreateLemmas.{execution_keeps}
use Rattle.store_sql_rows.proofs.DeskTexts.{set_version_text}
use Rattle.store_sql_rows.proofs.RunLemmas.{moves_made}
use Rattle.store_sql.proofs.VersionFails.{version_fails}
use Rattle.store_sql.proofs.VersionLemmas.{sets_version}
use Rattle.store_sql.proofs.raising.set_version.Goals as goal

pub returns : goal.returns
returns g c =
    let old = c.args.transaction.now.conn.now in
    let new = c.execute.new.self.conn.now in
    record {
      moves = moves_made c.execute.ensures.same_reference
          (λ clean. execution_keeps g.S.Store old new set_version_text _ c.execute.result c.execute.ensures.ended
          (c.execute.ensures.runs clean))
          c.execute.ensures.survives
          (λ clean inside. sets_version (state g.S.Store old) (state g.S.Store new) c.execute.result inside
          (c.execute.ensures.runs clean inside.in_transaction));
      cause = λ clean inside. version_fails (state g.S.Store old) (state g.S.Store new) c.execute.result inside
          (c.execute.ensures.runs clean inside.in_transaction);
    }
