use Rattle.panel.proofs.SentLemmas.{named-is-sent}
use Rattle.panel.proofs.laws.named_is_sent.Goals as goal

pub returns : goal.returns
returns c = named-is-sent
