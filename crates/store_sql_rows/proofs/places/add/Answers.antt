use Rattle.std.proofs.Common.{◌≡◌, rules, w64}
use Rattle.std.specs.Int.{cast_signed as to_z, cast_unsigned as of_z}
use Rattle.sqlite.specs.Held.{state}
use Rattle.store_sql_rows.proofs.PlaceLemmas.{adds}
use Rattle.store_sql_rows.proofs.RunLemmas.{moves_made, refused_inside}
use Rattle.store_sql_rows.proofs.places.add.Goals as goal

pub returns-clause-moves : goal.returns-clause-moves
returns-clause-moves g c =
    let whole : to_z w64 (of_z w64 c.args.value) ≡ c.args.value = search rules in
    moves_made c.run.ensures.same_reference c.run.ensures.kept c.run.ensures.survives (λ clean inside.
    adds c.args.point.now c.args.priority c.args.value (state g.S.Store c.args.transaction.now.conn.now)
    (state g.S.Store c.run.new.transaction.conn.now) c.run.result inside
    (rw (c.text.ensures, c.count.ensures, c.from.ensures, c.whole.ensures, whole) at (c.run.ensures.runs clean inside.in_transaction)))

pub returns-clause-refused : goal.returns-clause-refused
returns-clause-refused g c clean inside is =
    refused_inside _ _ (state g.S.Store c.args.transaction.now.conn.now) (state g.S.Store c.run.new.transaction.conn.now)
    c.run.result inside.in_transaction (c.run.ensures.runs clean inside.in_transaction) is
