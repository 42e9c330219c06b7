use Rattle.std.proofs.Common.{◌≡◌, ◌+◌, ◌++◌, drop, string_bytes}
use Rattle.building_hints.specs.HintLines.{exception_hints, numbered}
use Rattle.building_hints.proofs.schedule_hints.push_exceptions.Given as goal

-- the hints so far
abbrev pub invariant-loop-index : goal.invariant-loop-index
invariant-loop-index l = string_bytes l.text ++ numbered (exception_hints l.name) (l.index + 1) (drop l.index l.exceptions)
    ≡ string_bytes l.initial.text ++ numbered (exception_hints l.name) 1 l.exceptions
