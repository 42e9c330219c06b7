use Rattle.std.proofs.Common.{◌≡◌, ◌++◌, drop, map}
use Rattle.std.specs.List.{All}
use Rattle.store.specs.Change.{IsPlace}
use Rattle.desk_settling.specs.Settled.{at_each_target}
use Rattle.desk_settling.proofs.settlement.push_at_each.Given as goal

-- what was put, and what the rest of the targets get
abbrev pub invariant-loop-target : goal.invariant-loop-target
invariant-loop-target l = record {
  places : l.places.items
      ++ map (λ point. record { point = point; priority = l.schedule.priority; value = l.value }) (drop l.target-index l.schedule.targets)
      ≡ l.initial.places.items ++ at_each_target l.value l.schedule;
  placed : All IsPlace l.places.items;
}
