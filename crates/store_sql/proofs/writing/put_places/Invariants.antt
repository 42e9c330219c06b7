use Rattle.std.proofs.Common.{◌≡◌, length, Ok}
use Rattle.std.specs.List.{All}
use Rattle.sqlite.specs.Held.{state}
use Rattle.store.specs.Change.{IsPlace, with_each}
use Rattle.store_sql_rows.specs.Steps.{Steps, place_put}
use Rattle.store_sql_rows.proofs.StepLemmas.{Nears}
use Rattle.store_sql.proofs.writing.put_places.Given as goal

abbrev pub decreases-loop-rest : goal.decreases-loop-rest
decreases-loop-rest g l = length l.rest

abbrev pub invariant-loop-rest : goal.invariant-loop-rest
invariant-loop-rest g l = record {
  same : l.transaction.conn.ghost_name ≡ l.fn.transaction.conn.ghost_name;
  places : All IsPlace l.rest;
  steps : Steps {A = Unit {0}} (Nears (with_each place_put l.rest) (with_each place_put l.items))
      (state g.S.Store l.fn.transaction.conn.now) (state g.S.Store l.transaction.conn.now) (Ok (tt {0}));
}
