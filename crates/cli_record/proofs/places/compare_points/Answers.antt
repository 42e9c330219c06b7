use Rattle.std.proofs.Common.{◌<◌, arith, length}
use Rattle.cli_record.specs.Differences.{of_point}
use Rattle.cli_record.proofs.ComparesLemmas.{compares-then}
use Rattle.cli_record.proofs.WalkLemmas.{walk-more}
use Rattle.cli_record.proofs.places.compare_points.Goals as goal

pub loop-point-preserved : goal.loop-point-preserved
loop-point-preserved g c =
    let held = (g.S.Store.standing c.args.store.now).content.tables in
    let recorded = (g.T.Store.standing c.args.other.now).content.tables in
    let below : c.loop-point.point-index < length c.args.points.now = omega arith in
    compares-then c.loop-point.invariant c.in_ok-compare_point.ensures (λ so_far more.
    walk-more (of_point held recorded) c.args.found.now.items c.loop-point.found.items c.compare_point.new.found.items c.args.points.now
    c.loop-point.point-index c.point-item.result below c.point-item.is so_far more)
