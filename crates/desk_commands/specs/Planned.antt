-- What makes a plan right for a command or a skip that a panel delivers.
use Rattle.std.specs.Prelude.{◌≡◌, ℕ, List, ℤ}
use Rattle.points.specs.Texts.{Text}
use Rattle.window.specs.declared.plan.Plan.{Plan}
use Rattle.window.specs.Plan.{Plans}
use Rattle.window.specs.Taken.{Ask, front}
use Rattle.window.specs.View.{row_asked}
use Rattle.building.specs.Building.{Building}
use Rattle.deliveries.specs.declared.delivery.Delivery.{Delivery}
use Rattle.deliveries.specs.Accepted.{asked, panel_of, taken_by}
use Rattle.deliveries.specs.Reply.{number_in_reply}
use Rattle.deliveries.specs.Tables.{tables}
use Rattle.std.specs.Prelude.{Some}

-- a plan for what a delivery asks of a panel, after earlier deliveries
pub record IsPlanned (building : Building) (earlier : List Delivery) (delivery : Delivery) (ask : Ask) (panel : Text) (next : ℕ)
    (number : ℤ)
    (plan : Plan) : Type 0 where
  pub of_panel : panel_of delivery ≡ panel
  pub asks_it : asked delivery ≡ Some ask
  pub number_is : number_in_reply delivery ≡ number
  pub next_is : next ≡ front (taken_by building panel earlier)
  pub plans : Plans (taken_by building panel earlier) ask (row_asked ((tables building earlier).row panel) ask) plan
