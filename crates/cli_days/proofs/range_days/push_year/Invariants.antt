use Rattle.std.proofs.Common.{◌≡◌, ◌++◌, ◌-◌, filter}
use Rattle.std.specs.List.{flat_map, range_with_len}
use Rattle.dates.specs.Range.{in_range}
use Rattle.cli_days.specs.RangeDays.{month_days}
use Rattle.cli_days.proofs.range_days.push_year.Given as goal

-- the days so far
abbrev pub invariant-loop-month : goal.invariant-loop-month
invariant-loop-month l = l.days.items ≡ l.initial.days.items
    ++ flat_map (λ month. filter (in_range l.range) (month_days l.year month)) (range_with_len 1 (l.month - 1))
