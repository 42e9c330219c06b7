use Rattle.std.proofs.Common.{◌≡◌, ◌++◌, List, drop, map}
use Rattle.jiff_core.specs.declared.civil.date.Date.{Date}
use Rattle.desk_settling.specs.Calendars.{Tells, calendars_of, with_texts}
use Rattle.points.specs.Texts.{Text}
use Rattle.sched.specs.Calendar.{hold_on}
use Rattle.cli_days.proofs.calendars.calendars_with.Given as goal

-- the calendars so far, and those of the rest
abbrev pub invariant-loop-calendar : goal.invariant-loop-calendar
invariant-loop-calendar g l =
    let first = g.S.Store.standing l.initial.store in
    let now = g.S.Store.standing l.store in
    record {
      honest : now.is_honest → first.is_honest;
      kept : now.is_honest → now.content ≡ first.content;
      hold : now.is_honest → (imported : Text → List Text) → Tells first.content.tables.imported imported → (day : Date)
          → hold_on day l.calendars.items ++ hold_on day (map (with_texts imported) (drop l.calendar-index l.building.calendars))
          ≡ hold_on day (calendars_of l.building imported);
    }
