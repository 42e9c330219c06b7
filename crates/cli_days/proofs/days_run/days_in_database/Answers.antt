use Rattle.cli_days.proofs.days_run.days_in_database.Goals as goal

pub returns-in-Err-clause-unlisted : goal.returns-in-Err-clause-unlisted
returns-in-Err-clause-unlisted g c = λ none. (λ done. absurd (c.status.ensures done), c.in-Err.ensures.unlisted)

pub returns-in-Err-clause-quiet : goal.returns-in-Err-clause-quiet
returns-in-Err-clause-quiet g c = λ done. absurd (c.status.ensures done)
