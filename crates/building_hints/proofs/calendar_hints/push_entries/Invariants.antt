use Rattle.std.proofs.Common.{◌≡◌, ◌+◌, ◌++◌, drop, string_bytes}
use Rattle.building_hints.specs.HintLines.{entry_hint, numbered}
use Rattle.building_hints.proofs.calendar_hints.push_entries.Given as goal

-- the hints so far
abbrev pub invariant-loop-index : goal.invariant-loop-index
invariant-loop-index l = string_bytes l.text ++ numbered (entry_hint l.name) (l.index + 1) (drop l.index l.entries)
    ≡ string_bytes l.initial.text ++ numbered (entry_hint l.name) 1 l.entries
