use Rattle.std.proofs.Common.{sym, subst}
use Rattle.building_explanations.specs.OneLine.{IsOneLine}
use Rattle.building_explanations.proofs.OneLineLemmas.{IsOneLine-push, first_is_shown, others_are_shown}
use Rattle.building_explanations.proofs.one_line.push_escape.Goals as goal

pub loop-piece-preserved : goal.loop-piece-preserved
loop-piece-preserved c = record {
  to_come = others_are_shown c.in-Some.piece _ _ c.in-Some.ensures.steps.1.0 c.loop-piece.invariant.to_come;
  so_far = λ held. subst IsOneLine (sym c.in_ok-push.ensures.bytes) (IsOneLine-push _ c.in-Some.piece
      (first_is_shown c.in-Some.piece _ _ c.in-Some.ensures.steps.1.0 c.loop-piece.invariant.to_come) (c.loop-piece.invariant.so_far held));
}
