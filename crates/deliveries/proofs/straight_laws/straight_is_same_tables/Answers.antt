use Rattle.deliveries.proofs.TablesSame.{same-tables}
use Rattle.deliveries.proofs.straight_laws.straight_is_same_tables.Goals as goal

pub returns : goal.returns
returns c = same-tables
