use Rattle.store_sql_rows.specs.Steps.{place_put}
use Rattle.store_sql_rows.proofs.StepLemmas.{first_put, first_put_after}
use Rattle.store_sql_rows.proofs.place_runs.put_leading_places.Goals.{in-Some+in-Some-copied+in_ok-count+else-count-gt0, in_default}
use Rattle.store_sql_rows.proofs.place_runs.put_leading_places.Goals as goal

pub returns-clause-moves : goal.returns-clause-moves
returns-clause-moves g c =
    elim c.match-item.branch [
      | in-Some+in-Some-copied+in_ok-count+else-count-gt0 w ↦
          first_put_after place_put c.args.items.now w.in_ok-count.count c.index-items-0.result c.requires.some c.index-items-0.is
          w.if-count-gt0.false w.in_ok-count.ensures.moves (rw w.transaction-is at c.in_ok-put_place.ensures.moves)
      | in_default w ↦
          first_put place_put c.args.items.now c.index-items-0.result c.requires.some c.index-items-0.is
          (rw w.transaction-is at c.in_ok-put_place.ensures.moves)
    ]
