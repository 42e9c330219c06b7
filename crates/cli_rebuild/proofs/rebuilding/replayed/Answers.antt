use Rattle.std.proofs.Common.{◌∙◌, subst, sym}
use Rattle.desk.specs.Opening.{Suits}
use Rattle.store.specs.Standing.{Content}
use Rattle.cli_rebuild.proofs.rebuilding.replayed.Goals as goal

pub returns-clause-holds : goal.returns-clause-holds
returns-clause-holds g c = λ earlier bytes begins has.
    let kept = c.in_ok-building.ensures.holds earlier bytes begins has in
    record {
      deliveries = kept.deliveries;
      lists = kept.lists;
      holds = c.in_ok-building-2.ensures.same tt ∙ kept.holds;
    }

pub returns-clause-suits : goal.returns-clause-suits
returns-clause-suits g c =
    subst (λ (content : Content). Suits c.args.building content.tables) (sym (c.in_ok-building-2.ensures.same tt))
    ((rw c.in_ok-building.ensures.building at c.in_ok-building-2.ensures.suits) tt)
