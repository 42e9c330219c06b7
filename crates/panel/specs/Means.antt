-- What a reply of the desk tells a panel's end of a command.
use Rattle.std.specs.Prelude.{◌≡◌, ◌⊎◌, ℕ, ℤ, pos, negsuc, true, List, [], ◌∷◌, ◌++◌, Option, Some, None}
use Rattle.std.specs.Str.{bytes_eq}
use Rattle.points.specs.declared.answer.Answer.{Answer}
use Rattle.points.specs.declared.content.Content.{Content}
use Rattle.points.specs.Texts.{Text}
use Rattle.building.specs.Building.{Building}
use Rattle.window.specs.declared.numbered_content.NumberedContent.{NumberedContent}
use Rattle.window.specs.Taken.{content_in}
use Rattle.deliveries.specs.declared.delivery.Delivery.{Delivery}
use Rattle.deliveries.specs.declared.reply.Reply.{Reply}
use Rattle.deliveries.specs.declared.reply.Reply.TheVariants.{Answered, Differs, Forgotten, SkipDone, Skipped}
use Rattle.deliveries.specs.Accepted.{panel_of}
use Rattle.deliveries.specs.Events.{events_after, machine}
use Rattle.deliveries.specs.Reply.{reply}
use Rattle.panel.specs.Life.{IsPassed, Life, commands_by}

abbrev pub natural : ℤ → Option ℕ
natural (pos number) = Some number
natural (negsuc number) = None

-- the number of the command that hears its last with a reply
abbrev pub ended_by : Reply → Option ℕ
ended_by (Answered number answer) = natural number
ended_by (Skipped number) = natural number
ended_by (Forgotten number) = natural number
ended_by (Differs number) = natural number
ended_by other = None

-- the next number that the reply to a skip tells
abbrev pub next_in_reply : Reply → Option ℕ
next_in_reply (SkipDone next) = Some next
next_in_reply other = None

-- the desk gave the reply to one of the panel's deliveries, at its place in the list
pub record Came (building : Building) (panel : Text) (deliveries : List Delivery) (given : Reply) : Type 0 where
  pub before : List Delivery
  pub delivery : Delivery
  pub after : List Delivery
  pub in_list : deliveries ≡ before ++ delivery ∷ after
  pub of_panel : bytes_eq (panel_of delivery) panel ≡ true
  pub replied : given ≡ reply building before delivery

-- the commands of a panel that the desk acted on, in the order in which it did
abbrev pub commands_done : Building → Text → List Delivery → List NumberedContent
commands_done building panel deliveries = commands_by panel (events_after building [] deliveries)

-- acted on, with what was pressed and the answer that was heard
pub record WasDone (building : Building) (panel : Text) (deliveries : List Delivery) (number : ℕ) (content : Content) (answer : Answer)
    : Type 0 where
  pub done : content_in (commands_done building panel deliveries) number ≡ Some content
  pub answered : (machine building deliveries).answers panel number ≡ answer

-- given up before it came: it never is acted on
pub record WasSkipped (building : Building) (panel : Text) (deliveries : List Delivery) (life : Life) (number : ℕ) : Type 0 where
  pub never_done : content_in (commands_done building panel deliveries) number ≡ None
  pub given_up : IsPassed life.given_up number

-- What the last reply on a command means. `done` and `refused`: it was acted on, with this answer. `skipped`: its
-- end gave it up. `forgotten`: it was acted on or given up. `differs` a life that sends nothing else never hears.
abbrev pub Means : Building → Text → List Delivery → Life → ℕ → Content → Reply → Type 0
Means building panel deliveries life number content (Answered heard answer) = WasDone building panel deliveries number content answer
Means building panel deliveries life number content (Skipped heard) = WasSkipped building panel deliveries life number
Means building panel deliveries life number content (Forgotten heard) =
    (content_in (commands_done building panel deliveries) number ≡ Some content) ⊎ IsPassed life.given_up number
Means building panel deliveries life number content (Differs heard) = ⊥
Means building panel deliveries life number content other = Unit {0}
