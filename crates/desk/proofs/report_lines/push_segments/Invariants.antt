use Rattle.std.proofs.Common.{◌≡◌, ◌++◌, take, string_bytes}
use Rattle.std.specs.List.{flat_map}
use Rattle.desk.specs.ReportLines.{segment_line}
use Rattle.desk.proofs.report_lines.push_segments.Given as goal

-- what was written, with the segments so far
abbrev pub invariant-loop-segment : goal.invariant-loop-segment
invariant-loop-segment l =
    string_bytes l.text ≡ string_bytes l.initial.text ++ flat_map segment_line (take l.segment-index l.segments)
