use Rattle.deliveries.proofs.TablesSame.{same-machine}
use Rattle.deliveries.proofs.straight_laws.straight_is_same_machine.Goals as goal

pub returns : goal.returns
returns c = same-machine
