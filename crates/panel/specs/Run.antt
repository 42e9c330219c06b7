-- A run of a panel's end, from its last event back.
use Rattle.std.specs.Prelude.{ℕ, ◌+◌, ◌==◌, not, nat_lt, nat_le, max, min, if◌then◌else◌, List, [], ◌∷◌, ◌++◌, Option, Some, None}
use Rattle.std.specs.List.{filter, find}
use Rattle.points.specs.declared.content.Content.{Content}
use Rattle.window.specs.declared.TheConstants.{WINDOW}
use Rattle.points.specs.declared.numbered_row.TheConstants.{LAST_NUMBER}
use Rattle.window.specs.declared.numbered_content.NumberedContent.{NumberedContent}
use Rattle.deliveries.specs.declared.reply.Reply.{Reply}
use Rattle.deliveries.specs.declared.reply.Reply.TheVariants.{SkipDone, TooFar}
use Rattle.panel.specs.Life.{Life}
use Rattle.panel.specs.Means.{ended_by}

-- It began to number at `first`. A content was pressed. The journal has each press up to a number. A reply was heard.
-- Each press up to a number was given up.
pub data Run : Type 0 where
  Began : (first : ℕ) → Run
  Pressed : (earlier : Run) → (content : Content) → Run
  Kept : (earlier : Run) → (number : ℕ) → Run
  Heard : (earlier : Run) → (reply : Reply) → Run
  GaveUp : (earlier : Run) → (number : ℕ) → Run

abbrev pub first_number : Run → ℕ
first_number (Began first) = first
first_number (Pressed earlier content) = first_number earlier
first_number (Kept earlier number) = first_number earlier
first_number (Heard earlier reply) = first_number earlier
first_number (GaveUp earlier number) = first_number earlier

-- the number of the next press
abbrev pub next_number : Run → ℕ
next_number (Began first) = first
next_number (Pressed earlier content) = next_number earlier + 1
next_number (Kept earlier number) = next_number earlier
next_number (Heard earlier reply) = next_number earlier
next_number (GaveUp earlier number) = next_number earlier

abbrev pub numbered : ℕ → Content → NumberedContent
numbered number content = record { number = number; content = content }

-- what was pressed, each under its number
abbrev pub pressed : Run → List NumberedContent
pressed (Began first) = []
pressed (Pressed earlier content) = pressed earlier ++ numbered (next_number earlier) content ∷ []
pressed (Kept earlier number) = pressed earlier
pressed (Heard earlier reply) = pressed earlier
pressed (GaveUp earlier number) = pressed earlier

-- the number behind one that was pressed: no further than the next press
abbrev pub behind : ℕ → ℕ → ℕ
behind number next = min (number + 1) next

-- the journal has each press below this number
abbrev pub kept_below : Run → ℕ
kept_below (Began first) = first
kept_below (Pressed earlier content) = kept_below earlier
kept_below (Kept earlier number) = max (kept_below earlier) (behind number (next_number earlier))
kept_below (Heard earlier reply) = kept_below earlier
kept_below (GaveUp earlier number) = kept_below earlier

-- what was pressed and is in the journal
abbrev pub kept : Run → List NumberedContent
kept run = filter (λ entry. nat_lt entry.number (kept_below run)) (pressed run)

-- the numbers up to which was given up
abbrev pub given_up : Run → List ℕ
given_up (Began first) = []
given_up (Pressed earlier content) = given_up earlier
given_up (Kept earlier number) = given_up earlier
given_up (Heard earlier reply) = given_up earlier
given_up (GaveUp earlier number) = behind number (next_number earlier) ∷ given_up earlier

-- entries without that of a number
abbrev pub without : Option ℕ → List NumberedContent → List NumberedContent
without None entries = entries
without (Some number) entries = filter (λ entry. not (entry.number == number)) entries

-- the entry of a number, if there is one
abbrev pub entry_of : Option ℕ → List NumberedContent → Option NumberedContent
entry_of None entries = None
entry_of (Some number) entries = find (λ entry. entry.number == number) entries

-- what was pressed and has not heard its last
abbrev pub in_flight : Run → List NumberedContent
in_flight (Began first) = []
in_flight (Pressed earlier content) = in_flight earlier ++ numbered (next_number earlier) content ∷ []
in_flight (Kept earlier number) = in_flight earlier
in_flight (Heard earlier reply) = without (ended_by reply) (in_flight earlier)
in_flight (GaveUp earlier number) = in_flight earlier

-- the further one of two numbers
abbrev pub further : Option ℕ → ℕ → ℕ
further None upto = upto
further (Some other) upto = max other upto

-- what is left to give up, once a reply says how far the desk has come
abbrev pub skip_after : Reply → Option ℕ → Option ℕ
skip_after reply None = None
skip_after (SkipDone next) (Some upto) = if nat_le upto next then None else Some upto
skip_after reply (Some upto) = Some upto

-- what is given up below this number, the desk has not said that it is
abbrev pub skip : Run → Option ℕ
skip (Began first) = if nat_lt 1 first then Some first else None
skip (Pressed earlier content) = skip earlier
skip (Kept earlier number) = skip earlier
skip (Heard earlier reply) = skip_after reply (skip earlier)
skip (GaveUp earlier number) = Some (further (skip earlier) (behind number (next_number earlier)))

-- how far a skip may go for a desk that tells its next number
abbrev pub reach_from : ℕ → ℕ
reach_from next = min (next + WINDOW) (LAST_NUMBER + 1)

abbrev pub reach_after : Reply → ℕ → ℕ
reach_after (SkipDone next) reach = reach_from next
reach_after (TooFar next number) reach = reach_from next
reach_after reply reach = reach

-- how far a skip goes at once: a desk that fell back is led by steps
abbrev pub reach : Run → ℕ
reach (Began first) = first
reach (Pressed earlier content) = reach earlier
reach (Kept earlier number) = reach earlier
reach (Heard earlier reply) = reach_after reply (reach earlier)
reach (GaveUp earlier number) = further (skip earlier) (behind number (next_number earlier))

-- the least number that still waits for its last reply, or that of the next press
abbrev pub least_of : ℕ → List NumberedContent → ℕ
least_of next [] = next
least_of next (entry ∷ entries) = entry.number

-- what a run of the end has sent
abbrev pub life : Run → Life
life run = record { first = first_number run; pressed = kept run; given_up = given_up run }
