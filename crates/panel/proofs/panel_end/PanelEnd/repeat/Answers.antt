use Rattle.std.proofs.Common.{ℕ, sym, subst}
use Rattle.panel.specs.Ran.{Ran}
use Rattle.panel.specs.Replayed.{moved}
use Rattle.panel.specs.Run.{Kept, Pressed}
use Rattle.panel.specs.declared.moves.Move.{Move}
use Rattle.panel.proofs.panel_end.PanelEnd.repeat.Goals as goal

pub returns-in_ok-number-in-Press-clause-ran : goal.returns-in_ok-number-in-Press-clause-ran
returns-in_ok-number-in-Press-clause-ran c = λ run ran.
    let pressed = c.in_ok-number-in-Press.ensures.ran run ran in
    let kept = c.keep.ensures.ran (Pressed run c.in-Press.content) pressed.1 in
    subst (λ (made : Move). Ran (moved run made) c.keep.new.self) (sym c.in-Press.is)
    (subst (λ (number : ℕ). Ran (Kept (Pressed run c.in-Press.content) number) c.keep.new.self) pressed.0 kept)
