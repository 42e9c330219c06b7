use Rattle.std.proofs.Common.{◌≡◌, ◌∙◌, ℕ, ap, arith, subst}
use Rattle.store_memory.specs.Memory.{standing_of}
use Rattle.points.specs.Run.{IsRun, rows_between}
use Rattle.desk_straighten.proofs.StoreLemmas.{ReadsRun-held}
use Rattle.desk_why.proofs.steps.passed_rows.Goals as goal

pub returns-clause-rows : goal.returns-clause-rows
returns-clause-rows c = λ some rises.
    let s = standing_of c.args.store.now in
    let p = c.args.panel.now in
    let next = c.in_ok-after.ensures.value tt in
    let from : c.min-from.result ≡ c.args.before = omega (arith, next, rises) in
    let run = subst (λ (n : ℕ). IsRun ((standing_of c.panel_next.new.self).content.tables.row p) n c.in_ok-after.after c.in_ok-run.run'.items) from
    (c.in_ok-run.ensures.value tt) in
    let reads = ReadsRun-held c.args.building.now s (standing_of c.panel_next.new.self) p c.args.before c.in_ok-after.after
    c.in_ok-run.run'.items some (c.in_ok-after.ensures.reads.kept tt (λ e. cc)) next rises run in
    reads.is ∙ ap (rows_between (s.content.tables.row p) c.args.before) next
