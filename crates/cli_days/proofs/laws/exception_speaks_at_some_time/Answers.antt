use Rattle.cli_days.proofs.SpeakLemmas.{speaks_on-some_time}
use Rattle.cli_days.proofs.laws.exception_speaks_at_some_time.Goals as goal

pub returns : goal.returns
returns c = speaks_on-some_time
