use Rattle.std.proofs.Common.{◌∙◌, sym}
use Rattle.desk_why.specs.AuthorsTable.{held_in}
use Rattle.desk_overrides.proofs.LookLemmas.{given-along, given-held, given-none}
use Rattle.desk_overrides.proofs.looking.given_at.Goals as goal

pub loop-priority-init : goal.loop-priority-init
loop-priority-init c = given-along (held_in c.args.authors.now c.args.point.now)

pub returns-in-Some : goal.returns-in-Some
returns-in-Some c = c.given_by.ensures ∙ sym (c.loop-priority.invariant
    ∙ given-held (held_in c.args.authors.now c.args.point.now) c.loop-priority.priority-index _ c.in-Some.held c.loop-priority-test.true
    (sym c.held.ensures ∙ c.in-Some.is))

pub loop-priority-preserved : goal.loop-priority-preserved
loop-priority-preserved c = c.loop-priority.invariant
    ∙ given-none (held_in c.args.authors.now c.args.point.now) c.loop-priority.priority-index _ c.loop-priority-test.true
    (sym c.held.ensures ∙ c.in_default.is)
