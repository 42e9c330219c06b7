use Rattle.panel.proofs.CommandLemmas.{commands-applied}
use Rattle.panel.proofs.GivenUpLemmas.{missing-given_up}
use Rattle.panel.proofs.PressedLemmas.{commands-pressed}
use Rattle.panel.proofs.RestLemmas.{commands-first}
use Rattle.panel.proofs.life_laws.commands_are_pressed.Goals as goal

pub returns-clause-applied : goal.returns-clause-applied
returns-clause-applied c = commands-applied

pub returns-clause-part : goal.returns-clause-part
returns-clause-part c = commands-pressed

pub returns-clause-missing : goal.returns-clause-missing
returns-clause-missing c = missing-given_up

pub returns-clause-first : goal.returns-clause-first
returns-clause-first c = commands-first
