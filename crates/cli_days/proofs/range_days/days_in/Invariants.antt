use Rattle.std.proofs.Common.{◌≡◌, [], ◌++◌, ◌-◌, filter}
use Rattle.std.specs.List.{flat_map, range_with_len}
use Rattle.dates.specs.Range.{in_range}
use Rattle.cli_days.specs.RangeDays.{year_days}
use Rattle.cli_days.proofs.range_days.days_in.Given as goal

-- the days so far
abbrev pub invariant-loop-year : goal.invariant-loop-year
invariant-loop-year l = l.days.items ≡ [] ++ flat_map (λ year. filter (in_range l.range) (year_days year)) (range_with_len 1900 (l.year - 1900))
