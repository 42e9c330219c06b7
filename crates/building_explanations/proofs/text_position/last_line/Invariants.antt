use Rattle.std.proofs.Common.{◌≡◌, ◌+◌, ◌≤◌, length, not, take}
use Rattle.std.specs.List.{suffix_len}
use Rattle.building_explanations.specs.TextPosition.{is_line_end}
use Rattle.building_explanations.proofs.text_position.last_line.Given as goal

-- what stands from the start on belongs to the last line
abbrev pub invariant-loop-start : goal.invariant-loop-start
invariant-loop-start l = record {
  within : l.start ≤ length l.text;
  counted : l.start + suffix_len (λ x. not (is_line_end x)) l.text ≡ length l.text + suffix_len (λ x. not (is_line_end x)) (take l.start l.text);
}

abbrev pub decreases-loop-start : goal.decreases-loop-start
decreases-loop-start l = l.start
