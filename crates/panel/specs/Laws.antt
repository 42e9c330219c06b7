-- What becomes of what a panel's end sent, whatever the network loses, repeats and reorders.
use Rattle.std.specs.Prelude.{◌≡◌, ℕ, ◌<◌, ◌≤◌, nat_lt, List, [], ◌∷◌, None, Some}
use Rattle.std.specs.List.{filter}
use Rattle.points.specs.declared.content.Content.{Content}
use Rattle.points.specs.Texts.{Text}
use Rattle.building.specs.Building.{Building}
use Rattle.window.specs.declared.numbered_content.NumberedContent.{NumberedContent}
use Rattle.window.specs.Applied.{applied}
use Rattle.window.specs.Taken.{content_in, front, opening}
use Rattle.deliveries.specs.declared.delivery.Delivery.{Delivery}
use Rattle.deliveries.specs.declared.reply.Reply.{Reply}
use Rattle.deliveries.specs.Accepted.{taken_by}
use Rattle.panel.specs.Life.{ArePressed, IsPassed, Life, IsWithin, RiseFrom, WereSent, from_number}
use Rattle.panel.specs.Means.{Came, Means, commands_done, ended_by, next_in_reply}

-- the commands of a panel that were acted on are what its front has passed: for any list
abbrev pub CommandsAreApplied : Type 0
CommandsAreApplied = (building : Building) (panel : Text) (deliveries : List Delivery)
    → commands_done building panel deliveries ≡ applied opening (taken_by building panel deliveries)

-- a part of what was pressed, in number order, each once
pub record IsPartOf (life : Life) (done : List NumberedContent) : Type 0 where
  pub rise : RiseFrom 1 done
  pub pressed_so : ArePressed life.pressed (from_number life.first done)

abbrev pub CommandsArePressed : Type 0
CommandsArePressed = (building : Building) (life : Life) (panel : Text) (deliveries : List Delivery)
    → WereSent life panel deliveries → IsPartOf life (commands_done building panel deliveries)

-- a number of its own below the front that was not acted on, its life gave up
abbrev pub OnlyGivenUpIsMissing : Type 0
OnlyGivenUpIsMissing = (building : Building) (life : Life) (panel : Text) (deliveries : List Delivery) (number : ℕ)
    → WereSent life panel deliveries → 1 ≤ number → life.first ≤ number → number < front (taken_by building panel deliveries)
    → content_in (commands_done building panel deliveries) number ≡ None → IsPassed life.given_up number

-- where nothing is given up, they are the first ones that were pressed, up to the front
abbrev pub CommandsAreFirst : Type 0
CommandsAreFirst = (building : Building) (life : Life) (panel : Text) (deliveries : List Delivery)
    → WereSent life panel deliveries → 1 ≤ life.first → RiseFrom life.first life.pressed → life.given_up ≡ []
    → from_number life.first (commands_done building panel deliveries)
    ≡ filter (λ entry. nat_lt entry.number (front (taken_by building panel deliveries))) life.pressed

-- the command that a reply ends was pressed, and the reply says what became of it
pub record IsReported (building : Building) (life : Life) (panel : Text) (deliveries : List Delivery) (number : ℕ) (given : Reply) : Type 0
  where
    pub content : Content
    pub pressed : content_in life.pressed number ≡ Some content
    pub past : number < front (taken_by building panel deliveries)
    pub means : Means building panel deliveries life number content given

abbrev pub RepliesAreTrue : Type 0
RepliesAreTrue = (building : Building) (life : Life) (panel : Text) (deliveries : List Delivery) (number : ℕ) (given : Reply)
    → WereSent life panel deliveries → Came building panel deliveries given → ended_by given ≡ Some number
    → 1 ≤ number → life.first ≤ number → IsReported building life panel deliveries number given

-- a skip that is done brought the front where the reply says, or further
abbrev pub SkipsAreTrue : Type 0
SkipsAreTrue = (building : Building) (panel : Text) (deliveries : List Delivery) (given : Reply) (next : ℕ)
    → Came building panel deliveries given → next_in_reply given ≡ Some next → next ≤ front (taken_by building panel deliveries)

-- a reply that came ended the command of a number
pub record IsEnded (building : Building) (panel : Text) (deliveries : List Delivery) (number : ℕ) : Type 0 where
  pub given : Reply
  pub came : Came building panel deliveries given
  pub ends : ended_by given ≡ Some number

-- each of its presses has heard its last word
abbrev pub AreEnded : Building → Text → List Delivery → List NumberedContent → Type 0
AreEnded building panel deliveries [] = Unit {0}
AreEnded building panel deliveries (entry ∷ entries) =
    IsEnded building panel deliveries entry.number × AreEnded building panel deliveries entries

-- at rest: each press has heard its last word, and nothing was given up. Then what was acted on is what was pressed.
abbrev pub AtRestAllIsDone : Type 0
AtRestAllIsDone = (building : Building) (life : Life) (panel : Text) (deliveries : List Delivery)
    → WereSent life panel deliveries → 1 ≤ life.first → RiseFrom life.first life.pressed → life.given_up ≡ []
    → AreEnded building panel deliveries life.pressed
    → from_number life.first (commands_done building panel deliveries) ≡ life.pressed

-- the end presses more and gives up more: what it sent stays what it sent
pub record Goes (earlier later : Life) : Type 0 where
  pub first : later.first ≡ earlier.first
  pub pressed : (number : ℕ) (content : Content) → content_in earlier.pressed number ≡ Some content
      → content_in later.pressed number ≡ Some content
  pub given_up : (upto : ℕ) → IsWithin earlier.given_up upto → IsWithin later.given_up upto

abbrev pub SentStaysSent : Type 0
SentStaysSent = (earlier later : Life) (panel : Text) (deliveries : List Delivery) → Goes earlier later
    → WereSent earlier panel deliveries → WereSent later panel deliveries
