-- The laws of the window: where its front lies, what bounds it, and what a skip does to parked commands.
use Rattle.std.specs.Prelude.{◌≡◌, ℕ, ◌+◌, ◌<◌, ◌≤◌, Bool, true, false, not, ◌&&◌, nat_lt, List, length}
use Rattle.points.specs.declared.content.Content.{Content}
use Rattle.window.specs.declared.panel_view.PanelView.{PanelView}
use Rattle.window.specs.Applied.{applied}
use Rattle.window.specs.Taken.{Ask, Command, Skip, Taken, taken, take, opening, content_in, content_at, is_key, front, accepts, accepts_skip}
use Rattle.window.specs.View.{Shows}
use Rattle.window.specs.Window.{window}

-- it is the least number that is at least `upto` and no key
pub record IsFront (earlier : Taken) (least_missing : ℕ) : Type 0 where
  pub given_up : earlier.upto ≤ least_missing
  pub missing : is_key earlier least_missing ≡ false
  pub least : (number : ℕ) → earlier.upto ≤ number → number < least_missing → is_key earlier number ≡ true

-- the front is the least missing number
abbrev pub FrontIsLeastMissing : Type 0
FrontIsLeastMissing = (earlier : Taken) → IsFront earlier (front earlier)

-- the front never falls
abbrev pub FrontNeverFalls : Type 0
FrontNeverFalls = (earlier : Taken) (ask : Ask) → front earlier ≤ front (take earlier ask)

-- a command that is not accepted leaves what was accepted, and so the front
abbrev pub RefusedChangesNothing : Type 0
RefusedChangesNothing = (earlier : Taken) (number : ℕ) (content : Content) → accepts earlier number ≡ false
    → take earlier (Command number content) ≡ earlier

-- after any asks, no key lies at or past the front plus the window
abbrev pub NoKeyPastWindow : Type 0
NoKeyPastWindow = (asks : List Ask) (number : ℕ) → let earlier = taken opening asks in
    front earlier + window ≤ number → is_key earlier number ≡ false

-- a number is given up where the front has passed it and nothing was accepted under it
abbrev pub is_given_up : Taken → ℕ → Bool
is_given_up earlier number = nat_lt number (front earlier) && not (is_key earlier number)

-- a skip up to `upto` leads from `before` to `after`
pub record SkipsTo (before after : Taken) (upto : ℕ) : Type 0 where
  -- of the numbers that it passes, those are applied under which something was accepted
  pub applies : (number : ℕ) → front before ≤ number → number < upto
      → content_in (applied before after) number ≡ content_at before number
  -- of the numbers from the front on, the missing ones below `upto` are given up and no other
  pub gives_up : (number : ℕ) → front before ≤ number
      → is_given_up after number ≡ (nat_lt number upto && not (is_key before number))

-- an accepted skip applies what was parked below it and gives up exactly the missing numbers below it
abbrev pub SkipAppliesParkedAndGivesUpMissing : Type 0
SkipAppliesParkedAndGivesUpMissing =
    (before : Taken) (upto : ℕ) → accepts_skip before upto ≡ true → SkipsTo before (take before (Skip upto)) upto

-- no view has more rows in its run than the window has numbers
abbrev pub NoRunPastWindow : Type 0
NoRunPastWindow = (view : PanelView) (asks : List Ask) (ask : Ask) → Shows view (taken opening asks) ask
    → length view.run ≤ window
