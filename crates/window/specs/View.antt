-- What a panel's rows still keep, and the part of them that a command or a skip has to see.
use Rattle.std.specs.Prelude.{◌≡◌, ℕ, ◌-◌, nat_lt, if◌then◌else◌, List, [], Option, Some, None, option_map}
use Rattle.points.specs.declared.content.Content.{Content}
use Rattle.points.specs.declared.command_row.CommandRow.{CommandRow}
use Rattle.points.specs.declared.numbered_row.NumberedRow.{NumberedRow}
use Rattle.points.specs.Run.{Rows, IsRun}
use Rattle.window.specs.declared.panel_view.PanelView.{PanelView}
use Rattle.window.specs.declared.run_needed.RunNeeded.{RunNeeded}
use Rattle.window.specs.RunNeeded.{run_behind, run_over}
use Rattle.window.specs.Taken.{Ask, Command, Skip, Taken, content_at, front}
use Rattle.window.specs.Window.{remembered}

-- what is kept under a number of what was accepted earlier: nothing where it is forgotten
abbrev pub kept_at : Taken → ℕ → Option Content
kept_at earlier number = if nat_lt number (front earlier - remembered) then None else content_at earlier number

abbrev pub content_of_row : Option CommandRow → Option Content
content_of_row row = option_map (λ row. row.content) row

-- a panel's rows keep what was accepted of it earlier, each content under its number
abbrev pub Keeps : Rows → Taken → Type 0
Keeps rows earlier = (number : ℕ) → content_of_row (rows number) ≡ kept_at earlier number

-- the row of the number that is asked for
abbrev pub row_asked : Rows → Ask → Option CommandRow
row_asked rows (Command number content) = rows number
row_asked rows (Skip upto) = None

-- the run that a plan for an ask can need
abbrev pub run_needed : Taken → Ask → Option RunNeeded
run_needed earlier (Command number content) = run_behind (front earlier) number
run_needed earlier (Skip upto) = run_over (front earlier) upto

-- that run of a panel's rows, or none
abbrev pub IsRunNeeded : Rows → Option RunNeeded → List NumberedRow → Type 0
IsRunNeeded rows None run = run ≡ []
IsRunNeeded rows (Some needed) run = IsRun rows needed.from needed.upto run

-- A view shows what was accepted of its panel earlier, as far as an ask needs it: the front, and of the rows
-- that keep what was accepted the one of the number asked for and the run.
pub record Shows (view : PanelView) (earlier : Taken) (ask : Ask) : Type 0 where
  pub rows : Rows
  pub keeps : Keeps rows earlier
  pub next : view.next ≡ front earlier
  pub asked : view.asked ≡ row_asked rows ask
  pub run : IsRunNeeded rows (run_needed earlier ask) view.run
