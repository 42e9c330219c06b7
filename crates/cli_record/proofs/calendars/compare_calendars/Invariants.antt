use Rattle.std.proofs.Common.{◌≡◌, ◌++◌, List, Ok, take}
use Rattle.cli_record.specs.declared.difference.Difference.{Difference}
use Rattle.cli_record.specs.Compared.{Compares}
use Rattle.cli_record.specs.Differences.{OfCalendars}
use Rattle.cli_record.proofs.calendars.compare_calendars.Given as goal

-- where the calendars so far differ
abbrev pub invariant-loop-calendar : goal.invariant-loop-calendar
invariant-loop-calendar g l =
    Compares (λ held recorded _. (part : List Difference) × (l.found.items ≡ l.initial.found.items ++ part)
    × OfCalendars held recorded (take l.calendar-index l.calendars) part)
    (Ok (tt {0})) (g.S.Store.standing l.initial.store) (g.S.Store.standing l.store) (g.T.Store.standing l.initial.other) (g.T.Store.standing l.other)
