-- What a run of a panel's end may rely on, over both ends.
use Rattle.std.specs.Prelude.{◌≡◌, ◌⊎◌, ℕ, ◌+◌, ◌<◌, ◌≤◌, pos, true, List, [], ◌∷◌, Some, None}
use Rattle.std.specs.List.{Contains}
use Rattle.std.specs.Str.{bytes_eq}
use Rattle.points.specs.declared.content.Content.{Content}
use Rattle.points.specs.Texts.{Text}
use Rattle.window.specs.declared.numbered_content.NumberedContent.{NumberedContent}
use Rattle.window.specs.declared.TheConstants.{WINDOW}
use Rattle.window.specs.Taken.{content_in, front}
use Rattle.building.specs.Building.{Building}
use Rattle.deliveries.specs.declared.delivery.Delivery.{Delivery}
use Rattle.deliveries.specs.declared.delivery.Delivery.TheVariants.{Command, Skip}
use Rattle.deliveries.specs.Accepted.{panel_of, taken_by}
use Rattle.deliveries.specs.declared.reply.Reply.{Reply}
use Rattle.panel.specs.Laws.{IsPartOf}
use Rattle.panel.specs.Life.{IsPassed, WereSent, from_number}
use Rattle.panel.specs.Means.{Came, Means, commands_done, ended_by}
use Rattle.panel.specs.Due.{due}
use Rattle.panel.specs.Run.{Run, Began, Pressed, Kept, Heard, GaveUp, entry_of, first_number, given_up, in_flight, life, pressed}

-- each reply that was heard, the desk gave to one of the panel's deliveries
abbrev pub AllCame : Building → Text → List Delivery → Run → Type 0
AllCame building panel deliveries (Began first) = Unit {0}
AllCame building panel deliveries (Pressed earlier content) = AllCame building panel deliveries earlier
AllCame building panel deliveries (Kept earlier number) = AllCame building panel deliveries earlier
AllCame building panel deliveries (Heard earlier reply) = Came building panel deliveries reply × AllCame building panel deliveries earlier
AllCame building panel deliveries (GaveUp earlier number) = AllCame building panel deliveries earlier

-- with this reply a command that was in flight heard its last
abbrev pub HasEnded : Run → NumberedContent → Reply → Type 0
HasEnded (Began first) command given = ⊥
HasEnded (Pressed earlier content) command given = HasEnded earlier command given
HasEnded (Kept earlier number) command given = HasEnded earlier command given
HasEnded (Heard earlier reply) command given =
    ((given ≡ reply) × (entry_of (ended_by reply) (in_flight earlier) ≡ Some command)) ⊎ HasEnded earlier command given
HasEnded (GaveUp earlier number) command given = HasEnded earlier command given

-- The theorem over both ends, of the commands that the desk acted on and those that wait for their last reply.
pub record Upheld (building : Building) (panel : Text) (deliveries : List Delivery) (run : Run) (waiting : List NumberedContent)
    : Type 0 where
  -- they are a part of what was pressed and kept, by rising number, each once
  pub part : IsPartOf (life run) (commands_done building panel deliveries)
  -- each command that heard its last has heard the truth: `done` and `refused`, that it is among them, with that answer
  pub truthful : (command : NumberedContent) (given : Reply) → HasEnded run command given
      → Means building panel deliveries (life run) command.number command.content given
  -- what was pressed and is not among them was given up, or waits
  pub missing : (number : ℕ) (content : Content) → content_in (pressed run) number ≡ Some content
      → content_in (commands_done building panel deliveries) number ≡ None
      → IsPassed (given_up run) number ⊎ (content_in waiting number ≡ Some content)
  -- where nothing waits and nothing was given up, they are what was pressed
  pub at_rest : waiting ≡ [] → given_up run ≡ []
      → from_number (first_number run) (commands_done building panel deliveries) ≡ pressed run

-- For each list in which each of the panel's deliveries was sent by the run, whatever is lost, repeated, reordered, or
-- comes from others in between, and each reply that was heard was the desk's.
abbrev pub IsUpheld : Text → Run → List NumberedContent → Type 0
IsUpheld panel run waiting = (building : Building) (deliveries : List Delivery)
    → WereSent (life run) panel deliveries → AllCame building panel deliveries run → Upheld building panel deliveries run waiting

-- what the reply that a command hears last says of it, for each list in which it came
abbrev pub IsTrueOf : Text → Run → Reply → NumberedContent → Type 0
IsTrueOf panel run given command = (building : Building) (deliveries : List Delivery)
    → WereSent (life run) panel deliveries → Came building panel deliveries given
    → Means building panel deliveries (life run) command.number command.content given

-- at rest nothing waits; where nothing was given up either, what the desk acted on is what was pressed
abbrev pub AllIsDone : Text → Run → Type 0
AllIsDone panel run = (building : Building) (deliveries : List Delivery)
    → WereSent (life run) panel deliveries → AllCame building panel deliveries run → given_up run ≡ []
    → from_number (first_number run) (commands_done building panel deliveries) ≡ pressed run

-- ---- a run goes on

-- the run stood there once
abbrev pub IsBeginning : Run → Run → Type 0
IsBeginning earlier (Began first) = earlier ≡ Began first
IsBeginning earlier (Pressed run content) = (earlier ≡ Pressed run content) ⊎ IsBeginning earlier run
IsBeginning earlier (Kept run number) = (earlier ≡ Kept run number) ⊎ IsBeginning earlier run
IsBeginning earlier (Heard run reply) = (earlier ≡ Heard run reply) ⊎ IsBeginning earlier run
IsBeginning earlier (GaveUp run number) = (earlier ≡ GaveUp run number) ⊎ IsBeginning earlier run

-- what was named as due at some time of the run
pub record WasNamed (panel : Text) (run : Run) (delivery : Delivery) : Type 0 where
  pub earlier : Run
  pub beginning : IsBeginning earlier run
  pub named : Contains (due panel earlier) delivery

-- No command that was named lies past the desk's window, in whatever list: so a life that begins past it gives no
-- number twice.
abbrev pub LiesWithin : Text → Run → Type 0
LiesWithin panel run = (building : Building) (deliveries : List Delivery)
    → WereSent (life run) panel deliveries → AllCame building panel deliveries run
    → (number : ℕ) (content : Content) → WasNamed panel run (Command panel (pos number) content)
    → number < front (taken_by building panel deliveries) + WINDOW

-- a delivery that an earlier life may have sent
abbrev pub IsEarlier : ℕ → Delivery → Type 0
IsEarlier first (Command panel (pos number) content) = number < first
IsEarlier first (Skip panel (pos upto)) = upto ≤ first
IsEarlier first other = ⊥

-- each delivery of this panel in the list was named at some time of the run, or lies below its first number
abbrev pub WereNamed : Text → Run → List Delivery → Type 0
WereNamed panel run [] = Unit {0}
WereNamed panel run (delivery ∷ deliveries) =
    (bytes_eq (panel_of delivery) panel ≡ true → WasNamed panel run delivery ⊎ IsEarlier (first_number run) delivery)
    × WereNamed panel run deliveries

-- so each was sent by the run, or by an earlier life
abbrev pub NamedIsSent : Type 0
NamedIsSent = (panel : Text) (run : Run) (deliveries : List Delivery) → WereNamed panel run deliveries
    → WereSent (life run) panel deliveries

abbrev pub SentStaysSent : Type 0
SentStaysSent = (panel : Text) (earlier run : Run) (deliveries : List Delivery) → IsBeginning earlier run
    → WereSent (life earlier) panel deliveries → WereSent (life run) panel deliveries
