use Rattle.std.proofs.Common.{◌≡◌, rules, w64}
use Rattle.std.specs.Int.{cast_signed as to_z, cast_unsigned as of_z}
use Rattle.sqlite.specs.Held.{state}
use Rattle.store_sql_rows.proofs.PlaceLemmas.{keys_found}
use Rattle.store_sql_rows.proofs.PlaceTexts.{keys_between_runs}
use Rattle.store_sql_rows.proofs.RunLemmas.{moves_made}
use Rattle.store_sql_rows.proofs.places.keys_between.Goals as goal

pub ask_inside-requires-clause-plain : goal.ask_inside-requires-clause-plain
ask_inside-requires-clause-plain g c = keys_between_runs.plain

pub ask_inside-requires-clause-unlisted : goal.ask_inside-requires-clause-unlisted
ask_inside-requires-clause-unlisted g c = keys_between_runs.unlisted

pub returns : goal.returns
returns g c =
    let first : to_z w64 (of_z w64 c.args.first) ≡ c.args.first = search rules in
    let last : to_z w64 (of_z w64 c.args.last) ≡ c.args.last = search rules in
    record {
      moves = moves_made c.ask_inside.ensures.same_reference c.ask_inside.ensures.kept c.ask_inside.ensures.survives (λ clean inside.
          keys_found c.args.first c.args.last (state g.S.Store c.args.transaction.now.conn.now)
          (state g.S.Store c.ask_inside.new.transaction.conn.now) (λ v. v.items) c.ask_inside.result inside
          (rw (c.whole.ensures, c.whole-2.ensures, first, last) at (c.ask_inside.ensures.shown clean inside)));
    }
