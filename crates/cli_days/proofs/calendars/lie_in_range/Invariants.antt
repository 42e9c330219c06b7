use Rattle.std.proofs.Common.{take}
use Rattle.std.specs.List.{All}
use Rattle.dates.specs.Entry.{IsEntry}
use Rattle.cli_days.proofs.calendars.lie_in_range.Given as goal

abbrev pub invariant-loop-entry : goal.invariant-loop-entry
invariant-loop-entry l = All IsEntry (take l.entry-index l.entries)
