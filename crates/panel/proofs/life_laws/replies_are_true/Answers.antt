use Rattle.panel.proofs.ReplyLemmas.{replies-are-true}
use Rattle.panel.proofs.RestLemmas.{at-rest}
use Rattle.panel.proofs.SkipLemmas.{skips-are-true}
use Rattle.panel.proofs.life_laws.replies_are_true.Goals as goal

pub returns-clause-replies : goal.returns-clause-replies
returns-clause-replies c = replies-are-true

pub returns-clause-at_rest : goal.returns-clause-at_rest
returns-clause-at_rest c = at-rest

pub returns-clause-skips : goal.returns-clause-skips
returns-clause-skips c = skips-are-true
