-- What one life of a panel's end has sent, and which of it the desk acted on.
use Rattle.std.specs.Prelude.{◌≡◌, ◌⊎◌, ℕ, ◌+◌, ◌<◌, ◌≤◌, ℤ, pos, negsuc, true, nat_le, if◌then◌else◌, List, [], ◌∷◌, Some}
use Rattle.std.specs.List.{filter, flat_map}
use Rattle.std.specs.Str.{bytes_eq}
use Rattle.points.specs.declared.content.Content.{Content}
use Rattle.points.specs.Texts.{Text}
use Rattle.window.specs.declared.numbered_content.NumberedContent.{NumberedContent}
use Rattle.window.specs.Taken.{content_in}
use Rattle.deliveries.specs.declared.delivery.Delivery.{Delivery}
use Rattle.deliveries.specs.declared.delivery.Delivery.TheVariants.{Command, Skip, Tick, Import}
use Rattle.deliveries.specs.Machine as event_of

-- One life of a panel's end: the first number that is its own, what was pressed, each under its number, and the
-- numbers up to which it gave up. Below `first` lies what earlier lives did, of which nothing is known.
pub record Life : Type 0 where
  pub first : ℕ
  pub pressed : List NumberedContent
  pub given_up : List ℕ

-- ---- what was sent

-- a command under one of its own numbers has what was pressed there
abbrev pub IsPressed : Life → ℤ → Content → Type 0
IsPressed life (pos number) content = (number < life.first) ⊎ (content_in life.pressed number ≡ Some content)
IsPressed life (negsuc number) content = ⊥

-- no further than one of these
abbrev pub IsWithin : List ℕ → ℕ → Type 0
IsWithin [] upto = ⊥
IsWithin (bound ∷ bounds) upto = (upto ≤ bound) ⊎ IsWithin bounds upto

-- a skip goes no further than its life gave up; all below its first number it may give up
abbrev pub IsGivenUp : Life → ℤ → Type 0
IsGivenUp life (pos upto) = IsWithin (life.first ∷ life.given_up) upto
IsGivenUp life (negsuc upto) = ⊥

-- a delivery of this panel is one that its life makes, or an earlier one made; one of another panel, a tick or an
-- import is any
abbrev pub WasSent : Life → Text → Delivery → Type 0
WasSent life panel (Command name number content) = bytes_eq name panel ≡ true → IsPressed life number content
WasSent life panel (Skip name upto) = bytes_eq name panel ≡ true → IsGivenUp life upto
WasSent life panel (Tick moment) = Unit {0}
WasSent life panel (Import rows) = Unit {0}

-- any losses, repeats and reorderings of them
abbrev pub WereSent : Life → Text → List Delivery → Type 0
WereSent life panel [] = Unit {0}
WereSent life panel (delivery ∷ deliveries) = WasSent life panel delivery × WereSent life panel deliveries

-- a number that was given up: it lies below one of these
abbrev pub IsPassed : List ℕ → ℕ → Type 0
IsPassed [] number = ⊥
IsPassed (upto ∷ uptos) number = (number < upto) ⊎ IsPassed uptos number

-- ---- what was acted on

-- the commands of a panel among what was acted on
abbrev pub command_by : Text → event_of.Event → List NumberedContent
command_by panel (event_of.Command name number content) =
    if bytes_eq name panel then record { number = number; content = content } ∷ [] else []
command_by panel (event_of.Tick moment) = []
command_by panel (event_of.Import rows) = []

abbrev pub commands_by : Text → List event_of.Event → List NumberedContent
commands_by panel events = flat_map (command_by panel) events

-- those under a number and the ones after it
abbrev pub from_number : ℕ → List NumberedContent → List NumberedContent
from_number first entries = filter (λ entry. nat_le first entry.number) entries

-- ---- a part in order

-- each number is above the one before it, from `least` on
abbrev pub RiseFrom : ℕ → List NumberedContent → Type 0
RiseFrom least [] = Unit {0}
RiseFrom least (entry ∷ entries) = (least ≤ entry.number) × RiseFrom (entry.number + 1) entries

-- each content was pressed under its number
abbrev pub ArePressed : List NumberedContent → List NumberedContent → Type 0
ArePressed pressed [] = Unit {0}
ArePressed pressed (entry ∷ entries) = (content_in pressed entry.number ≡ Some entry.content) × ArePressed pressed entries
