-- What straightening makes of a panel's commands and skips, as what was accepted of it grows.
use Rattle.std.specs.Prelude.{ℕ, zero, suc, ◌+◌, ◌-◌, Bool, not, ◌&&◌, ◌||◌, nat_lt, ◌==◌, if◌then◌else◌, List, [], ◌∷◌, ◌++◌, Option, Some}
use Rattle.std.specs.Prelude.{None}
use Rattle.points.specs.declared.content.Content.{Content}
use Rattle.window.specs.Taken.{Ask, Command, Skip, Taken, content_at, is_key, front}

-- a run of missing numbers ends before this one: the number before it is missing, and it is a key or the front
abbrev pub ends_gap : Taken → ℕ → Bool
ends_gap now number = not (is_key now (number - 1)) && (is_key now number || number == front now)

-- a skip up to the end of each run of missing numbers that begins at `first` or later
abbrev pub skip_upto : ℕ → Taken → ℕ → List Ask
skip_upto first now number = if nat_lt first number && ends_gap now number then Skip number ∷ [] else []

abbrev pub command_under : ℕ → Option Content → List Ask
command_under number None = []
command_under number (Some content) = Command number content ∷ []

-- at one number: the skip before the command
abbrev pub straightened_at : ℕ → Taken → ℕ → List Ask
straightened_at first now number = skip_upto first now number ++ command_under number (content_at now number)

-- at `count` numbers from `number` on, in rising order
abbrev pub straightened_from : ℕ → ℕ → Taken → ℕ → List Ask
straightened_from zero first now number = []
straightened_from (suc count) first now number = straightened_at first now number ++ straightened_from count first now (number + 1)

-- As what was accepted grows: one command for each number that the front passes and under which something was
-- accepted, and one skip up to the end of each run of the others. Under the new front stands nothing, so it gives a
-- skip at most.
unfoldable pub straightened : Taken → Taken → List Ask
straightened before now = straightened_from (suc (front now - front before)) (front before) now (front before)
