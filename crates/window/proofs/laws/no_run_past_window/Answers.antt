use Rattle.window.proofs.LawLemmas.{no_run_past_window}
use Rattle.window.proofs.laws.no_run_past_window.Goals as goal

pub returns : goal.returns
returns c = no_run_past_window
