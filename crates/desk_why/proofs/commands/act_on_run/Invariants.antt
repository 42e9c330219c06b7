use Rattle.std.proofs.Common.{take}
use Rattle.desk_why.specs.Steps.{Becomes, held_after_run}
use Rattle.desk_why.proofs.commands.act_on_run.Given as goal

-- the commands so far
abbrev pub invariant-loop-entry : goal.invariant-loop-entry
invariant-loop-entry l =
    Becomes (held_after_run l.building l.after l.panel (take l.entry-index l.run)) l.initial.authors l.authors
