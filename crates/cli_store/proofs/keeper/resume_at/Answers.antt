use Rattle.std.proofs.Common.{Ok, ◌∙◌, subst, sym}
use Rattle.desk_record.specs.Recorded.{IsBehind}
use Rattle.cli_store.proofs.keeper.resume_at.Goals as goal

pub returns-in-Ok-resume-clause-taken : goal.returns-in-Ok-resume-clause-taken
returns-in-Ok-resume-clause-taken g c = λ deliveries opens.
    let opened = opens (Ok c.in-Ok.disk) c.in-Ok.ensures in
    record {
      lists = λ clean. c.in-Ok-resume.ensures.lists clean ∙ opened;
      in_step = λ earlier clean honest behind. c.in-Ok-resume.ensures.in_step earlier honest clean
          (subst (λ list. IsBehind c.args.desk.now.building earlier list (g.S.Store.standing c.args.desk.now.store)) (sym opened) behind);
    }
