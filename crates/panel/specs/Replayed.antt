-- A run that is taken up again from a journal.
use Rattle.std.specs.Prelude.{◌⊎◌, ◌<◌, ◌≤◌, List, [], ◌∷◌, fold, length}
use Rattle.panel.specs.declared.moves.Move.{Move}
use Rattle.panel.specs.declared.moves.Move.TheVariants.{Press, Hear, GiveUp}
use Rattle.panel.specs.declared.panel_end.TheConstants.{MOST_IN_FLIGHT}
use Rattle.panel.specs.declared.press_fault.PressFault.{PressFault}
use Rattle.panel.specs.declared.press_fault.PressFault.TheVariants.{Full, NoMemory, NoNumberLeft}
use Rattle.points.specs.declared.numbered_row.TheConstants.{LAST_NUMBER}
use Rattle.panel.specs.Run.{Run, Pressed, Kept, Heard, GaveUp, in_flight, next_number}

-- a press that the journal has is kept
abbrev pub moved : Run → Move → Run
moved run (Press content) = Kept (Pressed run content) (next_number run)
moved run (Hear reply) = Heard run reply
moved run (GiveUp number) = GaveUp run number

abbrev pub replayed : Run → List Move → Run
replayed run moves = fold moved run moves

-- the fault that a press meets
abbrev pub Refuses : PressFault → Run → Move → Type 0
Refuses Full run (Press content) = MOST_IN_FLIGHT ≤ length (in_flight run)
Refuses NoNumberLeft run (Press content) = LAST_NUMBER < next_number run
Refuses NoMemory run (Press content) = Unit {0}
Refuses fault run other = ⊥

-- one of the moves meets it, after those before it
abbrev pub IsRefused : PressFault → Run → List Move → Type 0
IsRefused fault run [] = ⊥
IsRefused fault run (move ∷ moves) = Refuses fault run move ⊎ IsRefused fault (moved run move) moves
