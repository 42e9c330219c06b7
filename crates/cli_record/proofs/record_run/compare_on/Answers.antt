use Rattle.cli_record.proofs.record_run.compare_on.Goals as goal

pub returns-in-Ok-clause-found : goal.returns-in-Ok-clause-found
returns-in-Ok-clause-found g c = λ earlier begins honest.
    (rw c.in-Ok.ensures.building at c.compare_list.ensures.found) earlier (c.in-Ok.ensures.holds earlier begins) honest
