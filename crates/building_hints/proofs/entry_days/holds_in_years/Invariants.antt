use Rattle.std.proofs.Common.{◌≡◌, ◌≤◌, false}
use Rattle.building_hints.specs.EntryDays.{holds_in_months, some_between}
use Rattle.building_hints.proofs.entry_days.holds_in_years.Given as goal

-- none of those before
abbrev pub invariant-loop-year : goal.invariant-loop-year
invariant-loop-year l = (l.fn.years.0 ≤ l.year) × (some_between l.fn.years.0 l.year (holds_in_months l.entry l.fn.months l.fn.days) ≡ false)
