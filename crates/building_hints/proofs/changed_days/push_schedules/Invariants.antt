use Rattle.std.proofs.Common.{◌≡◌, ◌++◌, string_bytes, take}
use Rattle.std.specs.List.{flat_map}
use Rattle.building_hints.specs.ChangedDays.{change_hint}
use Rattle.building_hints.proofs.changed_days.push_schedules.Given as goal

abbrev pub invariant-loop-schedule : goal.invariant-loop-schedule
invariant-loop-schedule l = string_bytes l.text
    ≡ string_bytes l.initial.text ++ flat_map (change_hint l.import.before.now l.import.after.now l.day) (take l.schedule-index l.schedule-items)
