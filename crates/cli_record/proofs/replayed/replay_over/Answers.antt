use Rattle.std.proofs.Common.{◌++◌, append_assoc, option_to_list, subst}
use Rattle.deliveries.specs.Delivered.{Holds}
use Rattle.cli_record.proofs.replayed.replay_over.Goals as goal

pub returns-clause-holds : goal.returns-clause-holds
returns-clause-holds g c = λ earlier bytes holds has.
    let replayed = c.in_ok-building.ensures.replayed earlier bytes holds has (c.requires.honest _) in
    let last = option_to_list c.in_ok-building.field-0.last in
    record {
      deliveries = replayed.made ++ last;
      lists = replayed.lists;
      holds = subst (λ ds. Holds c.args.desk.building ds (g.T.Store.standing c.in_ok-building-2.store)) (append_assoc earlier replayed.made last)
          ((rw c.in_ok-building.ensures.building at c.in_ok-building-2.ensures.made) (earlier ++ replayed.made) replayed.back.holds (c.requires.honest _));
    }
