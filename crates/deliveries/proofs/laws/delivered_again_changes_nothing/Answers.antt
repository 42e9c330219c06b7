use Rattle.deliveries.proofs.ClockLemmas.{reply-old, tables-old}
use Rattle.deliveries.proofs.QuietLemmas.{settled-again, tables-known}
use Rattle.deliveries.proofs.laws.delivered_again_changes_nothing.Goals as goal

pub returns-clause-settled : goal.returns-clause-settled
returns-clause-settled c = settled-again

pub returns-clause-late_tick : goal.returns-clause-late_tick
returns-clause-late_tick c = tables-old

pub returns-clause-old : goal.returns-clause-old
returns-clause-old c = reply-old

pub returns-clause-known_import : goal.returns-clause-known_import
returns-clause-known_import c = tables-known
