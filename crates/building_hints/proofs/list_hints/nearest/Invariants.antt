use Rattle.std.proofs.Common.{◌≡◌, None, drop, option_copied}
use Rattle.building_hints.proofs.NearestLemmas.{best_after}
use Rattle.building_hints.proofs.list_hints.nearest.Given as goal

-- the nearest so far, and those that are left
abbrev pub invariant-loop-calendar : goal.invariant-loop-calendar
invariant-loop-calendar l =
    best_after l.text (option_copied l.best) (drop l.calendar-index l.calendars) ≡ best_after l.text None l.calendars
