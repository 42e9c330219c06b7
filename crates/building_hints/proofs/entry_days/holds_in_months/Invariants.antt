use Rattle.std.proofs.Common.{◌≡◌, ◌≤◌, false}
use Rattle.building_hints.specs.EntryDays.{holds_in_days, some_between}
use Rattle.building_hints.proofs.entry_days.holds_in_months.Given as goal

-- none of those before
abbrev pub invariant-loop-month : goal.invariant-loop-month
invariant-loop-month l = (l.fn.months.0 ≤ l.month) × (some_between l.fn.months.0 l.month (holds_in_days l.entry l.fn.days l.year) ≡ false)
