use Rattle.std.proofs.Common.{refl, subst}
use Rattle.std.specs.Bool.{IsTrue}
use Rattle.cli_store.proofs.RecordedLemmas.{records}
use Rattle.cli_store.proofs.answering.deliver_recorded.Goals as goal

pub returns-clause-recorded : goal.returns-clause-recorded
returns-clause-recorded g c = λ earlier deliveries opens behind honest clean.
    let taken = c.in_ok-kept.ensures.taken deliveries opens in
    let same = c.resume_at.ensures.building in
    let clean_after = subst (λ disk. IsTrue (g.D.Disk.is_clean disk)) c.into_disk.ensures.disk clean in
    let clean_then = c.in_ok-reply.ensures.honest_record clean_after in
    let honest_then = c.in_ok-reply.ensures.honest honest in
    let step = taken.in_step earlier clean_then honest_then behind in
    let added = (rw same at c.in_ok-reply.ensures.recorded earlier honest clean_after) step in
    records c.args.desk.now.building earlier deliveries c.args.delivery.now _ _ (g.S.Store.standing c.deliver_kept.new.desk.store) _ _ _ _
    (taken.lists clean_then) (rw c.into_disk.ensures.disk refl) (c.into_disk.ensures.on_disk added.is_open clean) added
