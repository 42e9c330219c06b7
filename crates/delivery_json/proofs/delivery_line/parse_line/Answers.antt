use Rattle.delivery_json.proofs.UsualLemmas.{reported_command}
use Rattle.delivery_json.proofs.delivery_line.parse_line.Goals as goal

pub returns-in-Some : goal.returns-in-Some
returns-in-Some c = reported_command c.args.building.now c.args.line.now c.in-Some.delivery c.in-Some.ensures
