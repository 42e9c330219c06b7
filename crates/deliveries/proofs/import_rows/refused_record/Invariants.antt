use Rattle.std.proofs.Common.{◌≡◌, ◌+◌, drop, not}
use Rattle.std.specs.List.{position_or_len}
use Rattle.sched.specs.declared.calendar.CalendarEntry.{CalendarEntry}
use Rattle.deliveries.specs.Events.{has_calendar}
use Rattle.deliveries.proofs.import_rows.refused_record.Given as goal

-- none refused so far, so that the first one is the first of the rest
abbrev pub invariant-loop-row : goal.invariant-loop-row
invariant-loop-row l =
    let refused = λ (row : CalendarEntry). not (has_calendar l.building row) in
    record {
      record_is : l.record ≡ l.row-index + 2;
      first : position_or_len refused l.rows ≡ l.row-index + position_or_len refused (drop l.row-index l.rows);
    }
