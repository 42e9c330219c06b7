use Rattle.std.proofs.Common.{string_bytes}
use Rattle.building_explanations.specs.OneLine.{IsOneLine}
use Rattle.building_explanations.proofs.one_line.one_line.Given as goal

abbrev pub invariant-loop-character : goal.invariant-loop-character
invariant-loop-character l = IsOneLine (string_bytes l.line)
