use Rattle.panel.proofs.SentLemmas.{sent-stays-by_run}
use Rattle.panel.proofs.laws.sent_stays_sent.Goals as goal

pub returns : goal.returns
returns c = sent-stays-by_run
