use Rattle.deliveries.proofs.TablesSame.{no-tolerance}
use Rattle.deliveries.proofs.straight_laws.straight_uses_no_tolerance.Goals as goal

pub returns : goal.returns
returns c = no-tolerance
