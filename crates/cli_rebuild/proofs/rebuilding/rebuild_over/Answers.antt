use Rattle.std.proofs.Common.{◌∙◌, ◌++◌, Ok, subst, sym}
use Rattle.desk.specs.Opening.{Suits}
use Rattle.store.specs.Standing.{Content}
use Rattle.cli_rebuild.proofs.rebuilding.rebuild_over.Goals as goal

pub returns : goal.returns
returns g c file list known has =
    let building = c.in_ok-building.building in
    record {
      building = building;
      building_is = c.in_ok-building.ensures file known;
      rebuilds = λ makes honest earlier begins.
          let empty = makes (Ok c.in-Ok.store) c.in-Ok.ensures in
          let kept = c.in_ok-building-2.ensures.holds earlier list begins has in
          let held = (rw c.in_ok-building-2.ensures.building at c.in_ok-text.ensures.copied) (earlier ++ kept.deliveries) tt honest empty kept.holds in
          record {
            holds = record { deliveries = kept.deliveries; lists = kept.lists; holds = held };
            suits = subst (λ (content : Content). Suits building content.tables) (sym (held ∙ sym kept.holds)) c.in_ok-building-2.ensures.suits;
          };
      tells = λ honest.
          let told = (rw c.in_ok-building-2.ensures.building at c.in_ok-text.ensures.told) honest in
          record {
            torn = c.in_ok-building-2.field-0.torn;
            left = c.in_ok-building-2.ensures.torn list has;
            findings = told.0;
            holdings = told.1;
            survey = told.2;
            text_is = told.3;
          };
    }
