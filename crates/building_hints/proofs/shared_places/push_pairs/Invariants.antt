use Rattle.std.proofs.Common.{◌≡◌, ◌++◌, drop, string_bytes}
use Rattle.building_hints.specs.HintLines.{pair_hints}
use Rattle.building_hints.proofs.shared_places.push_pairs.Given as goal

-- the hints so far
abbrev pub invariant-loop-index : goal.invariant-loop-index
invariant-loop-index l = string_bytes l.text ++ pair_hints (drop l.index l.schedules) ≡ string_bytes l.initial.text ++ pair_hints l.schedules
