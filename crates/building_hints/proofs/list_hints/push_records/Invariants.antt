use Rattle.std.proofs.Common.{◌≡◌, ◌+◌, ◌++◌, drop, map, string_bytes}
use Rattle.csv.specs.Records.{fields_of}
use Rattle.building_hints.specs.HintLines.{numbered}
use Rattle.building_hints.specs.ListHints.{unknown_hint}
use Rattle.building_hints.proofs.list_hints.push_records.Given as goal

-- the hints so far
abbrev pub invariant-loop-index : goal.invariant-loop-index
invariant-loop-index l = string_bytes l.out ++ numbered (unknown_hint l.building.calendars) (l.index + 2) (map fields_of (drop l.index l.records))
    ≡ string_bytes l.initial.out ++ numbered (unknown_hint l.building.calendars) 2 (map fields_of l.records)
