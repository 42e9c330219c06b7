use Rattle.std.proofs.Common.{◌≡◌, map, take}
use Rattle.building.specs.declared.named_schedule.NamedSchedule.{NamedSchedule}
use Rattle.desk_adopt.proofs.sections.schedule_names.Given as goal

-- the names so far
abbrev pub invariant-loop-schedule : goal.invariant-loop-schedule
invariant-loop-schedule l = l.names.items ≡ map (λ (it : NamedSchedule). it.name) (take l.schedule-index l.building.schedules)
