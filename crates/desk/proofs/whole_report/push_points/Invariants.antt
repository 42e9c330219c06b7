use Rattle.std.proofs.Common.{◌≡◌, ◌++◌, None, take, string_bytes}
use Rattle.std.specs.List.{flat_map}
use Rattle.store.specs.Standing.{Reads}
use Rattle.desk.specs.DayReport.{line_of_point}
use Rattle.desk.proofs.whole_report.push_points.Given as goal

-- what was written, with the points so far
abbrev pub invariant-loop-point : goal.invariant-loop-point
invariant-loop-point g l =
    let first = g.S.Store.standing l.initial.store in
    record {
      reads : Reads None first (g.S.Store.standing l.store);
      lines : (g.S.Store.standing l.store).is_honest
          → string_bytes l.text ≡ string_bytes l.initial.text
          ++ flat_map (line_of_point first.content.tables.places) (take l.point-index l.points);
    }
