-- A plan from a view is a plan for what a delivery asks.
use Rattle.std.proofs.Common.{◌≡◌, ℕ, ◌+◌, List, Some, None, refl, ap, ◌∙◌, subst, ℤ}
use Rattle.std.specs.List.{flat_map}
use Rattle.points.specs.declared.content.Content.{Content as a_content}
use Rattle.points.specs.Run.{Rows}
use Rattle.store.specs.Standing.{Content, sound}
use Rattle.store.specs.Tables.{Tables}
use Rattle.points.specs.Texts.{Text}
use Rattle.window.specs.declared.panel_view.PanelView.{PanelView}
use Rattle.window.specs.declared.plan.Plan.{Plan}
use Rattle.points.specs.declared.numbered_row.TheConstants.{LAST_NUMBER}
use Rattle.window.specs.Plan.{Plans}
use Rattle.window.specs.RunNeeded.{run_behind, run_over}
use Rattle.window.specs.Taken as asks
use Rattle.window.specs.View.{IsRunNeeded, Shows}
use Rattle.building.specs.Building.{Building}
use Rattle.deliveries.specs.declared.delivery.Delivery.{Delivery}
use Rattle.deliveries.specs.declared.delivery.Delivery.TheVariants as delivery_of
use Rattle.deliveries.specs.Accepted.{ask_command, ask_skip, asks_of, number_upto, taken_by}
use Rattle.deliveries.specs.Tables.{tables}
use Rattle.deliveries.proofs.StepLemmas.{keeps-tables, next-tables}
use Rattle.desk_commands.specs.Planned.{IsPlanned}
use Rattle.desk_commands.specs.Views.{Views}

module _ (b : Building) (E : List Delivery) (p : Text) (next : ℕ) (held : Tables) (same : held ≡ tables b E)
    (next_is : next ≡ asks.front (taken_by b p E)) (view : PanelView) (plan : Plan) where
  abbrev earlier : asks.Taken
  earlier = taken_by b p E

  rows-same : held.row p ≡ (tables b E).row p
  rows-same = ap (λ (t : Tables). t.row p) same

  abbrev Plans-view : asks.Ask → Type 0
  Plans-view ask =
      (list : List asks.Ask) → Shows view (asks.taken asks.opening list) ask → Plans (asks.taken asks.opening list) ask view.asked plan

  pub planned-command : (z : ℤ) (number : ℕ) (content : a_content) → number_upto LAST_NUMBER z ≡ Some number
      → Views (held.row p) next (held.row p number) (run_behind next number) view → Plans-view (asks.Command number content)
      → IsPlanned b E (delivery_of.Command p z content) (asks.Command number content) p next z plan
  planned-command z number content found views plans =
      let asked_is = views.asked_is ∙ ap (λ (rows : Rows). rows number) rows-same in
      record {
        of_panel = refl;
        asks_it = ap (λ n. ask_command n content) found;
        number_is = refl;
        next_is = next_is;
        plans = subst (λ row. Plans earlier (asks.Command number content) row plan) asked_is
            (plans (flat_map (asks_of b p) E) (record {
              rows = (tables b E).row p;
              keeps = keeps-tables b E p;
              next = views.next_is ∙ next_is;
              asked = asked_is;
              run = subst (λ n. IsRunNeeded ((tables b E).row p) (run_behind n number) view.run) next_is
                  (subst (λ rows. IsRunNeeded rows (run_behind next number) view.run) rows-same views.run);
            }));
      }

  pub planned-skip : (z : ℤ) (upto : ℕ) → number_upto (LAST_NUMBER + 1) z ≡ Some upto
      → Views (held.row p) next None (run_over next upto) view → Plans-view (asks.Skip upto)
      → IsPlanned b E (delivery_of.Skip p z) (asks.Skip upto) p next z plan
  planned-skip z upto found views plans = record {
    of_panel = refl;
    asks_it = ap ask_skip found;
    number_is = refl;
    next_is = next_is;
    plans = subst (λ row. Plans earlier (asks.Skip upto) row plan) views.asked_is
        (plans (flat_map (asks_of b p) E) (record {
          rows = (tables b E).row p;
          keeps = keeps-tables b E p;
          next = views.next_is ∙ next_is;
          asked = views.asked_is;
          run = subst (λ n. IsRunNeeded ((tables b E).row p) (run_over n upto) view.run) next_is
              (subst (λ rows. IsRunNeeded rows (run_over next upto) view.run) rows-same views.run);
        }));
  }

-- the next number that is read is the front
pub next-held : (b : Building) (E : List Delivery) (p q : Text) (next : ℕ) (held : Content) → q ≡ p → held ≡ sound (tables b E)
    → next ≡ held.tables.next q
    → next ≡ asks.front (taken_by b p E)
next-held b E p q next held same is read =
    read ∙ (ap (λ (c : Content). c.tables.next q) is ∙ (ap (tables b E).next same ∙ next-tables b E p))
