use Rattle.std.proofs.Common.{subst, arith}
use Rattle.std.specs.List.{All}
use Rattle.std.proofs.lemmas.List.{take_all}
use Rattle.std.proofs.lemmas.List.Elements.{All-more}
use Rattle.dates.specs.Entry.{IsEntry}
use Rattle.cli_days.proofs.calendars.lie_in_range.Goals as goal

pub loop-entry-preserved : goal.loop-entry-preserved
loop-entry-preserved c =
    All-more IsEntry c.args.entries.now c.loop-entry.entry-index c.entry-item.result (omega (arith, c.loop-entry-test.true))
    c.loop-entry.invariant (subst IsEntry c.entry-item.is c.lies_in_range.ensures)

pub returns : goal.returns
returns c =
    subst (All IsEntry) (take_all c.loop-entry.entry-index c.args.entries.now (omega (arith, c.loop-entry-test.false)))
    c.loop-entry.invariant
