use Rattle.std.proofs.Common.{◌≡◌, ◌∙◌, ◌+◌, ◌++◌, ◌≤◌, ◌<◌, ℕ, List, map, sym, ap, subst, arith}
use Rattle.std.specs.List.{All}
use Rattle.store_memory.specs.Memory.{standing_of}
use Rattle.points.specs.declared.numbered_row.NumberedRow.{NumberedRow}
use Rattle.points.specs.Run.{rows_between}
use Rattle.window.specs.Drain.{contents_of}
use Rattle.window.specs.Between.{asks_between}
use Rattle.deliveries.specs.StraightList.{sent}
use Rattle.desk_straighten.proofs.StoreLemmas.{ReadsRun, ReadsRun-held, next-greatest}
use Rattle.desk_straighten.proofs.panel_asks.push_moved.Goals as goal

pub push_run-requires-clause-end : goal.push_run-requires-clause-end
push_run-requires-clause-end c =
    let is = c.in_ok-after.ensures.value tt in
    let most = next-greatest c.args.building.now (standing_of c.args.store.now) c.requires.holds c.args.panel.now in
    omega (arith, is, most)

pub push_run-requires-clause-numbers : goal.push_run-requires-clause-numbers
push_run-requires-clause-numbers c =
    let reads = ReadsRun-held c.args.building.now (standing_of c.args.store.now) (standing_of c.panel_next.new.self) c.args.panel.now
    c.args.before c.in_ok-after.after c.in_ok-run.run'.items c.requires.holds (c.in_ok-after.ensures.reads.kept tt (λ e. cc))
    (c.in_ok-after.ensures.value tt) c.requires.rises (c.in_ok-run.ensures.value tt) in
    subst (λ xs. All (λ (entry : NumberedRow). entry.number < c.in_ok-after.after) xs) (sym c.as_slice.ensures.value) reads.below

pub returns-clause-straightens : goal.returns-clause-straightens
returns-clause-straightens c =
    let s = standing_of c.args.store.now in
    let p = c.args.panel.now in
    let reads = ReadsRun-held c.args.building.now s (standing_of c.panel_next.new.self) p
    c.args.before c.in_ok-after.after c.in_ok-run.run'.items c.requires.holds (c.in_ok-after.ensures.reads.kept tt (λ e. cc))
    (c.in_ok-after.ensures.value tt) c.requires.rises (c.in_ok-run.ensures.value tt) in
    let read = c.as_slice.ensures.value ∙ reads.is in
    c.in_ok-push_run.ensures
    ∙ (ap (λ run. c.args.straightened.now.items ++ map (sent p) (asks_between c.args.before (contents_of run) c.in_ok-after.after)) read
    ∙ ap (λ (end : ℕ). c.args.straightened.now.items
    ++ map (sent p) (asks_between c.args.before (contents_of (rows_between (s.content.tables.row p) c.args.before end)) end))
    (c.in_ok-after.ensures.value tt))
