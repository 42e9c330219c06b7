use Rattle.std.proofs.Common.{◌≡◌, ◌++◌, ◌∷◌, [], ℕ, List, rules, string_bytes}
use Rattle.sched.specs.TimeText.{time_text}
use Rattle.points.specs.PointLine.{right_in}
use Rattle.desk.specs.ReportLines.{segment_line, value_text}
use Rattle.desk.proofs.SegmentLemmas.{joined-line}
use Rattle.desk.proofs.report_lines.push_segment.Goals as goal

pub returns : goal.returns
unfolding segment_line
returns c =
    let old : List ℕ = string_bytes c.args.text.now in
    let time : List ℕ = time_text c.args.segment.now.time in
    let value : List ℕ = right_in 12 (value_text c.args.segment.now.value) in
    let first = string_bytes c.write.new.self in
    let second = string_bytes c.push_str.new.self in
    let third = string_bytes c.push_value.new.text in
    let with_time : first ≡ old ++ time = search rules in
    let with_space : second ≡ first ++ 32 ∷ [] = search rules in
    let with_value : third ≡ second ++ value = search rules in
    let with_end : string_bytes c.push_str-2.new.self ≡ third ++ 10 ∷ [] = search rules in
    joined-line old time value first second third _ with_time with_space with_value with_end
