use Rattle.deliveries.proofs.PlaceLemmas.{each-place_holds}
use Rattle.deliveries.proofs.ShownLemmas.{each-schedule_shows}
use Rattle.deliveries.proofs.settling_laws.settling_leaves_what_the_rule_says.Goals as goal

pub returns-clause-places : goal.returns-clause-places
returns-clause-places c = each-place_holds

pub returns-clause-schedules : goal.returns-clause-schedules
returns-clause-schedules c = each-schedule_shows
