use Rattle.std.proofs.Common.{◌≡◌, [], ◌++◌, ◌-◌, filter}
use Rattle.std.specs.List.{cons_option, flat_map, range_with_len}
use Rattle.dates.specs.Day.{day_of}
use Rattle.dates.specs.Range.{in_range}
use Rattle.cli_days.proofs.range_days.push_month.Given as goal

-- the days so far
abbrev pub invariant-loop-number : goal.invariant-loop-number
invariant-loop-number l = l.days.items ≡ l.initial.days.items
    ++ flat_map (λ number. filter (in_range l.range) (cons_option (day_of l.year l.month number) [])) (range_with_len 1 (l.number - 1))
