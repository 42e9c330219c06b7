-- What a panel's end holds after a run.
use Rattle.std.specs.Prelude.{◌≡◌, ◌≤◌}
use Rattle.panel.specs.declared.panel_end.PanelEnd.{PanelEnd}
use Rattle.panel.specs.Run.{Run, first_number, in_flight, kept_below, next_number, reach, skip}

pub record Ran (run : Run) (panel : PanelEnd) : Type 0 where
  pub from_1 : 1 ≤ first_number run
  pub next : panel.next ≡ next_number run
  pub kept_below : panel.kept_below ≡ kept_below run
  pub in_flight : panel.in_flight.items ≡ in_flight run
  pub skip : panel.skip ≡ skip run
  pub reach : panel.reach ≡ reach run
