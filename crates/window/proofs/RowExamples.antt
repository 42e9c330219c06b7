-- The definition on worked lists: what one panel asks, and what it becomes.
use Rattle.std.proofs.Common.{◌≡◌, List, [], ◌∷◌, ◌++◌, refl}
use Rattle.points.specs.declared.content.Content.{Content}
use Rattle.window.specs.Taken.{Ask, Command, Skip, Taken, take, opening, front}
use Rattle.window.specs.Window.{window}
use Rattle.window.specs.Parked.{parked_asks}
use Rattle.window.specs.Straightened.{straightened}

-- what a panel's asks become, and last what is parked
pub push_run : Taken → List Ask → List Ask
push_run before [] = parked_asks before
push_run before (ask ∷ asks) = straightened before (take before ask) ++ push_run (take before ask) asks

module _ (a b c : Content) where
  -- #2 and #4 are parked, a skip up to 4, then #3 late, and the skip again
  pub skipped : push_run opening (Command 2 a ∷ Command 4 b ∷ Skip 4 ∷ Command 3 c ∷ Skip 4 ∷ [])
      ≡ Skip 2 ∷ Command 2 a ∷ Skip 4 ∷ Command 4 b ∷ []
  unfolding push_run straightened front take window
  skipped = refl

  -- #3 and #2 are parked, #2 again, #1, #2 again
  pub filled : push_run opening (Command 3 c ∷ Command 2 b ∷ Command 2 b ∷ Command 1 a ∷ Command 2 b ∷ [])
      ≡ Command 1 a ∷ Command 2 b ∷ Command 3 c ∷ []
  unfolding push_run straightened front take window
  filled = refl

  -- #64 is parked, #65 is too far
  pub far : push_run opening (Command 64 a ∷ Command 65 b ∷ []) ≡ Command 64 a ∷ []
  unfolding push_run straightened front take window
  far = refl

  -- #2 twice with different contents, then #1
  pub differs : push_run opening (Command 2 a ∷ Command 2 b ∷ Command 1 c ∷ []) ≡ Command 1 c ∷ Command 2 a ∷ []
  unfolding push_run straightened front take window
  differs = refl

  -- a skip over numbers of which none came, up to the end of the window
  pub none : push_run opening (Skip 65 ∷ Command 65 a ∷ []) ≡ Skip 65 ∷ Command 65 a ∷ []
  unfolding push_run straightened front take window
  none = refl
