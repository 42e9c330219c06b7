use Rattle.std.proofs.Common.{◌≡◌, ◌≤◌, false}
use Rattle.building_hints.specs.EntryDays.{holds_at, some_between}
use Rattle.building_hints.proofs.entry_days.holds_in_days.Given as goal

-- none of those before
abbrev pub invariant-loop-day : goal.invariant-loop-day
invariant-loop-day l = (l.fn.days.0 ≤ l.day) × (some_between l.fn.days.0 l.day (holds_at l.entry l.year l.month) ≡ false)
