-- Where a journal meets a fault.
use Rattle.std.proofs.Common.{ℕ, zero, suc, ◌<◌, List, [], ◌∷◌, length, slice_index_or, take}
use Rattle.std.proofs.Common.{arith, inl, inr}
use Rattle.panel.specs.declared.moves.Move.{Move}
use Rattle.panel.specs.declared.press_fault.PressFault.{PressFault}
use Rattle.panel.specs.Replayed.{IsRefused, Refuses, moved, replayed}
use Rattle.panel.specs.Run.{Run}

pub refused-at : (fault : PressFault) (run : Run) (moves : List Move) (place : ℕ) (made : Move) → place < length moves
    → Refuses fault (replayed run (take place moves)) (slice_index_or moves place made) → IsRefused fault run moves
refused-at fault run [] place made inside refuses = absurd (omega (arith, inside))
refused-at fault run (move ∷ moves) zero made inside refuses = inl refuses
refused-at fault run (move ∷ moves) (suc place) made inside refuses =
    inr (refused-at fault (moved run move) moves place made (omega (arith, inside)) refuses)
