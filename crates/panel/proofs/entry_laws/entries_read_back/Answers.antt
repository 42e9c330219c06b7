use Rattle.panel.proofs.BackLemmas.{entries-read-back}
use Rattle.panel.proofs.entry_laws.entries_read_back.Goals as goal

pub returns : goal.returns
returns c = entries-read-back
