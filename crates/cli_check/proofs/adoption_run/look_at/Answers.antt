use Rattle.cli_check.proofs.adoption_run.look_at.Goals as goal

pub returns-clause-noted : goal.returns-clause-noted
returns-clause-noted g c honest = c.in_ok-notes.ensures.noted (c.in_ok-last_tick.ensures.reads.goes.honest honest)
