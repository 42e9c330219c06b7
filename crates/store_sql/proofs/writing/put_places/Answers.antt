use Rattle.std.proofs.Common.{◌∙◌, sym, subst, arith, length, Ok}
use Rattle.std.proofs.lemmas.Bool.{eqb-true}
use Rattle.std.proofs.lemmas.List.{drop_all}
use Rattle.std.specs.List.{All}
use Rattle.std.proofs.lemmas.List.Elements.{All-drop}
use Rattle.sqlite.specs.Held.{state}
use Rattle.store.specs.Change.{IsPlace, with_each}
use Rattle.store_sql_rows.specs.Steps.{Steps, place_put}
use Rattle.store_sql_rows.proofs.StepLemmas.{Nears, nears_none, nears_rest}
use Rattle.store_sql.proofs.writing.put_places.Goals as goal

pub loop-rest-preserved : goal.loop-rest-preserved
loop-rest-preserved g c =
    let old = state g.S.Store c.args.transaction.now.conn.now in
    let mid = state g.S.Store c.loop-rest.transaction.conn.now in
    let new = state g.S.Store c.put_leading_places.new.transaction.conn.now in
    record {
      same = c.put_leading_places.ensures.moves.same_reference ∙ c.loop-rest.invariant.same;
      places = subst (All IsPlace) (sym c.behind-rest.ensures) (All-drop IsPlace c.in_ok-count.count c.loop-rest.rest.now c.loop-rest.invariant.places);
      steps =
          subst (λ l. Steps {A = Unit {0}} (Nears (with_each place_put l) (with_each place_put c.args.items.now)) old new (Ok (tt {0})))
          (sym c.behind-rest.ensures)
          (nears_rest place_put c.loop-rest.rest.now c.args.items.now old mid new (tt {0}) c.in_ok-count.count c.in_ok-count.ensures.within
          c.loop-rest.invariant.steps c.in_ok-count.ensures.moves.steps);
    }

pub returns : goal.returns
returns g c = record {
  moves = record {
    same_reference = c.loop-rest.invariant.same;
    steps =
        nears_none place_put c.loop-rest.rest.now c.args.items.now (state g.S.Store c.args.transaction.now.conn.now)
        (state g.S.Store c.loop-rest.transaction.conn.now) (tt {0})
        (drop_all 0 c.loop-rest.rest.now (omega (arith, eqb-true (length c.loop-rest.rest.now) 0 (sym c.loop-rest-test.ensures))))
        c.loop-rest.invariant.steps;
  };
}
