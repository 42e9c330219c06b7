use Rattle.std.proofs.Common.{subst}
use Rattle.std.specs.Io.KnownBytes.{Appends}
use Rattle.delivery_json.specs.ReplyText.{reply_line}
use Rattle.cli_store.proofs.RecordedLemmas.{adds}
use Rattle.cli_store.proofs.answering.deliver_kept.Goals as goal

pub returns-clause-answers : goal.returns-clause-answers
returns-clause-answers g c = λ earlier honest held.
    let delivers = c.in-Ok.ensures.delivers earlier honest held in
    record {
      printed = subst (λ it. Appends (g.W.Write.contents c.args.out.now) (g.W.Write.contents c.print_reply.new.out) (reply_line it))
          delivers.0 c.in_ok-print_reply.ensures;
      holds = delivers.1;
    }

pub returns-clause-recorded : goal.returns-clause-recorded
returns-clause-recorded g c = λ earlier honest honest_record step.
    let answered = c.in-Ok.ensures in
    adds c.args.desk.now.building earlier c.args.delivery.now (g.R.Recorder.standing c.args.recorder.now) (g.R.Recorder.standing c.deliver.new.recorder)
    (g.S.Store.standing c.args.desk.now.store) (g.S.Store.standing c.deliver.new.desk.store) c.in-Ok.reply
    (g.W.Write.contents c.args.out.now) (g.W.Write.contents c.print_reply.new.out) step (answered.recorded earlier honest honest_record step)
    (answered.written honest_record) answered.goes_on (λ list held. answered.delivers list honest held) c.in_ok-print_reply.ensures
