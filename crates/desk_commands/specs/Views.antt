-- When the view of a panel agrees with the rows that stand in the tables.
use Rattle.std.specs.Prelude.{◌≡◌, ℕ, Option}
use Rattle.points.specs.declared.command_row.CommandRow.{CommandRow}
use Rattle.points.specs.Run.{Rows}
use Rattle.window.specs.declared.panel_view.PanelView.{PanelView}
use Rattle.window.specs.declared.run_needed.RunNeeded.{RunNeeded}
use Rattle.window.specs.View.{IsRunNeeded}

-- a view of a panel: its next number, a row, and the run that is needed of its rows
pub record Views (rows : Rows) (next : ℕ) (asked : Option CommandRow) (needed : Option RunNeeded) (view : PanelView) : Type 0 where
  pub next_is : view.next ≡ next
  pub asked_is : view.asked ≡ asked
  pub run : IsRunNeeded rows needed view.run
