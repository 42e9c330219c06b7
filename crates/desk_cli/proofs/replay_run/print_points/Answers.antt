use Rattle.std.proofs.Common.{◌+◌, ◌∙◌, ap, rules, refl, subst, sym, arith}
use Rattle.std.specs.Io.KnownBytes.{Appends}
use Rattle.store.specs.Standing.{Content}
use Rattle.points.specs.Beginnings.{AppendsStart}
use Rattle.cli_common.proofs.PrintedLemmas.{Appends-Appends, start-after, start-taken, start-whole}
use Rattle.desk_cli.specs.Replay.{line_of_point}
use Rattle.desk_cli.proofs.ReplayLemmas.{points-then}
use Rattle.desk_cli.proofs.replay_run.print_points.Goals as goal

pub loop-index-preserved : goal.loop-index-preserved
loop-index-preserved g c =
    let so_far = c.loop-index.invariant in
    let first = g.S.Store.standing c.args.desk.now.store in
    let old = g.S.Store.standing c.loop-index.desk.store in
    record {
      honest = λ honest. so_far.honest (c.point_text.ensures.honest honest);
      same = λ honest. c.in_ok-text.ensures.same honest ∙ so_far.same (c.point_text.ensures.honest honest);
      building = c.point_text.ensures.building ∙ so_far.building;
      count = so_far.count;
      printed = λ honest.
          let before = c.point_text.ensures.honest honest in
          let then = points-then c.args.desk.now.building c.loop-index.desk.building first.content.tables old.content.tables
          c.points.result.now c.loop-index.index c.index-points-index.result _ _ c.as_bytes.result.now
          so_far.building (ap (λ (held : Content). held.tables) (so_far.same before)) (search rules) (omega arith) refl
          (c.in_ok-text.ensures.text honest) c.as_bytes.ensures.value in
          subst (λ text. Appends (g.W.Write.contents c.args.out.now) (g.W.Write.contents c.print_text.new.out) text) (sym then)
          (Appends-Appends _ _ _ _ _ (so_far.printed before) c.in_ok-print_text.ensures.whole);
    }

pub returns-in_err-text-clause-no_more : goal.returns-in_err-text-clause-no_more
returns-in_err-text-clause-no_more g c = λ honest.
    start-taken _ c.args.desk.now.building.points c.loop-index.index _ _
    (start-whole _ _ _ (c.loop-index.invariant.printed (c.point_text.ensures.honest honest)))

pub returns-in_err-print_text-clause-no_more : goal.returns-in_err-print_text-clause-no_more
returns-in_err-print_text-clause-no_more g c = λ honest.
    let so_far = c.loop-index.invariant in
    let first = g.S.Store.standing c.args.desk.now.store in
    let old = g.S.Store.standing c.loop-index.desk.store in
    let before = c.point_text.ensures.honest honest in
    let then = points-then c.args.desk.now.building c.loop-index.desk.building first.content.tables old.content.tables
    c.points.result.now c.loop-index.index c.index-points-index.result _ _ c.as_bytes.result.now
    so_far.building (ap (λ (held : Content). held.tables) (so_far.same before)) (search rules) (omega arith) refl
    (c.in_ok-text.ensures.text honest) c.as_bytes.ensures.value in
    start-taken (line_of_point c.args.desk.now.building first.content.tables) c.args.desk.now.building.points (c.loop-index.index + 1) _ _
    (subst (λ text. AppendsStart (g.W.Write.contents c.args.out.now) (g.W.Write.contents c.print_text.new.out) text) (sym then)
    (start-after _ _ _ _ _ (so_far.printed before) c.print_text.ensures.no_more))

pub returns-clause-no_more : goal.returns-clause-no_more
returns-clause-no_more g c = λ honest.
    start-taken _ c.args.desk.now.building.points c.loop-index.index _ _ (start-whole _ _ _ (c.loop-index.invariant.printed honest))
