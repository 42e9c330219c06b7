use Rattle.desk_settling.proofs.settlement.new_day.Goals as goal

pub returns-clause-spans : goal.returns-clause-spans
returns-clause-spans g c = c.in_ok-new.ensures.spans c.args.building.now.schedules
