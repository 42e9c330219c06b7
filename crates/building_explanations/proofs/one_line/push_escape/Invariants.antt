use Rattle.std.proofs.Common.{◌≡◌, true, string_bytes}
use Rattle.std.specs.Char.Iter.{escape_rest}
use Rattle.std.specs.List.{list_all}
use Rattle.building_explanations.specs.OneLine.{IsOneLine, is_shown}
use Rattle.building_explanations.proofs.one_line.push_escape.Given as goal

-- what is still to come of the escape is shown, and so is what was put there
abbrev pub invariant-loop-piece : goal.invariant-loop-piece
invariant-loop-piece l = record {
  to_come : list_all is_shown (escape_rest l.piece-iterator) ≡ true;
  so_far : IsOneLine (string_bytes l.initial.line) → IsOneLine (string_bytes l.line);
}
