use Rattle.std.proofs.Common.{◌≡◌, ◌++◌, take}
use Rattle.std.specs.List.{flat_map}
use Rattle.cli_record.specs.declared.difference.Difference.TheVariants.{NotRecorded}
use Rattle.cli_record.specs.Differences.{is_among}
use Rattle.cli_record.specs.Unless.{unless}
use Rattle.cli_record.proofs.calendars.add_not_recorded.Given as goal

-- those of the entries so far
abbrev pub invariant-loop-entry : goal.invariant-loop-entry
invariant-loop-entry l = l.found.items ≡ l.initial.found.items
    ++ flat_map (λ entry. unless (is_among l.recorded entry) (NotRecorded l.calendar entry)) (take l.entry-index l.entries)
