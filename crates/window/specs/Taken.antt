-- The rule of acceptance: which commands and skips the window takes, and the front that they move.
use Rattle.std.specs.Prelude.{ℕ, zero, suc, ◌+◌, Bool, not, ◌&&◌, nat_lt, nat_le, ◌==◌, if◌then◌else◌, max, List, [], ◌∷◌, length, Option, Some, None}
use Rattle.std.specs.Prelude.{is_some}
use Rattle.points.specs.declared.content.Content.{Content}
use Rattle.window.specs.declared.numbered_content.NumberedContent.{NumberedContent}
use Rattle.window.specs.Window.{window}

-- what a panel asks: that its command of a number is acted on, or that its missing numbers below `upto` are
-- given up
pub data Ask : Type 0 where
  Command : (number : ℕ) → (content : Content) → Ask
  Skip : (upto : ℕ) → Ask

-- what was accepted of a panel: its commands under their numbers, and the greatest `upto` of its skips, or 1
pub record Taken : Type 0 where
  pub accepted : List NumberedContent
  pub upto : ℕ

abbrev pub opening : Taken
opening = record { accepted = []; upto = 1 }

-- the content that stands under a number
abbrev pub content_in : List NumberedContent → ℕ → Option Content
content_in [] number = None
content_in (entry ∷ entries) number = if entry.number == number then Some entry.content else content_in entries number

abbrev pub content_at : Taken → ℕ → Option Content
content_at earlier number = content_in earlier.accepted number

abbrev pub is_key : Taken → ℕ → Bool
is_key earlier number = is_some (content_at earlier number)

-- the first of `count` numbers from `number` on under which nothing stands, or the one after them
abbrev pub missing_from : ℕ → List NumberedContent → ℕ → ℕ
missing_from zero entries number = number
missing_from (suc count) entries number =
    if is_some (content_in entries number) then missing_from count entries (number + 1) else number

-- the least number, at or above `upto`, that is no key: `front_is_least_missing` proves that it is
unfoldable pub front : Taken → ℕ
front earlier = missing_from (length earlier.accepted) earlier.accepted earlier.upto

-- a command is accepted under a number that is no key, from the front on, within the window
abbrev pub accepts : Taken → ℕ → Bool
accepts earlier number =
    not (is_key earlier number) && (nat_le (front earlier) number && nat_lt number (front earlier + window))

-- a skip is accepted where it moves the front, by at most the window
abbrev pub accepts_skip : Taken → ℕ → Bool
accepts_skip earlier upto = nat_lt (front earlier) upto && nat_le upto (front earlier + window)

abbrev pub with_command : Taken → ℕ → Content → Taken
with_command earlier number content =
    record { accepted = record { number = number; content = content } ∷ earlier.accepted; upto = earlier.upto }

-- what is accepted after one ask
unfoldable pub take : Taken → Ask → Taken
take earlier (Command number content) =
    if accepts earlier number then with_command earlier number content else earlier
take earlier (Skip upto) =
    if accepts_skip earlier upto then record { accepted = earlier.accepted; upto = max earlier.upto upto } else earlier

-- what is accepted after a list of asks, in the order in which they came
abbrev pub taken : Taken → List Ask → Taken
taken earlier [] = earlier
taken earlier (ask ∷ asks) = taken (take earlier ask) asks
