use Rattle.std.proofs.Common.{◌≡◌, rules, w64}
use Rattle.std.specs.Int.{cast_signed as to_z, cast_unsigned as of_z}
use Rattle.sqlite.specs.Held.{state}
use Rattle.store_sql_rows.proofs.PlaceLemmas.{sets_between}
use Rattle.store_sql_rows.proofs.RunLemmas.{moves_made}
use Rattle.store_sql_rows.proofs.places.set_between.Goals as goal

pub returns : goal.returns
returns g c =
    let first : to_z w64 (of_z w64 c.args.first) ≡ c.args.first = search rules in
    let last : to_z w64 (of_z w64 c.args.last) ≡ c.args.last = search rules in
    let value : to_z w64 (of_z w64 c.args.value) ≡ c.args.value = search rules in
    record {
      moves = moves_made c.run.ensures.same_reference c.run.ensures.kept c.run.ensures.survives (λ clean inside.
          sets_between c.args.first c.args.last c.args.value (state g.S.Store c.args.transaction.now.conn.now)
          (state g.S.Store c.run.new.transaction.conn.now) c.run.result inside
          (rw (c.whole.ensures, c.whole-2.ensures, c.whole-3.ensures, first, last, value)
          at (c.run.ensures.runs clean inside.in_transaction)));
    }
