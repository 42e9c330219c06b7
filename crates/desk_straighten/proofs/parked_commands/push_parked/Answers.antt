use Rattle.std.proofs.Common.{◌≡◌, ◌∙◌, ◌+◌, ◌++◌, ◌≤◌, ℕ, List, map, sym, ap, subst, arith}
use Rattle.std.specs.List.{All}
use Rattle.store_memory.specs.Memory.{standing_of}
use Rattle.points.specs.declared.numbered_row.NumberedRow.{NumberedRow}
use Rattle.points.specs.Run.{IsRun}
use Rattle.points.specs.declared.numbered_row.TheConstants.{LAST_NUMBER}
use Rattle.window.specs.Drain.{contents_of}
use Rattle.window.specs.Window.{window}
use Rattle.deliveries.specs.StraightList.{sent}
use Rattle.window.specs.Parked.{command_of}
use Rattle.desk_straighten.proofs.StoreLemmas.{ReadsParked, ReadsParked-held, next-greatest, window-is}
use Rattle.desk_straighten.proofs.parked_commands.push_parked.Goals as goal

pub overflow_add-next : goal.overflow_add-next
overflow_add-next c =
    let is = c.in_ok-next.ensures.value tt in
    let most = next-greatest c.args.building.now (standing_of c.args.store.now) c.requires.some c.args.panel.now in
    omega (arith, is, most)

pub push_commands-requires : goal.push_commands-requires
push_commands-requires c =
    let s = standing_of c.args.store.now in
    let p = c.args.panel.now in
    let read = standing_of c.panel_next.new.self in
    let is = subst (λ (n : ℕ). IsRun (read.content.tables.row p) c.in_ok-next.next (c.in_ok-next.next + n) c.in_ok-run.run'.items) window-is
    (c.in_ok-run.ensures.value tt) in
    let reads = ReadsParked-held c.args.building.now c.requires.some.earlier s c.requires.some.holds read
    (c.in_ok-next.ensures.reads.kept tt (λ e. cc)) p c.in_ok-next.next (c.in_ok-next.ensures.value tt) c.in_ok-run.run'.items is in
    record {
      numbers = subst (λ xs. All (λ (entry : NumberedRow). entry.number ≤ LAST_NUMBER) xs) (sym c.as_slice.ensures.value) reads.in_range;
    }

pub returns-clause-straightens : goal.returns-clause-straightens
returns-clause-straightens c = λ E held.
    let s = standing_of c.args.store.now in
    let p = c.args.panel.now in
    let read = standing_of c.panel_next.new.self in
    let is = subst (λ (n : ℕ). IsRun (read.content.tables.row p) c.in_ok-next.next (c.in_ok-next.next + n) c.in_ok-run.run'.items) window-is
    (c.in_ok-run.ensures.value tt) in
    let reads = ReadsParked-held c.args.building.now E s held read
    (c.in_ok-next.ensures.reads.kept tt (λ e. cc)) p c.in_ok-next.next (c.in_ok-next.ensures.value tt) c.in_ok-run.run'.items is in
    c.in_ok-push_commands.ensures
    ∙ (ap (λ run. c.args.straightened.now.items ++ map (sent p) (map command_of (contents_of run))) c.as_slice.ensures.value
    ∙ ap (λ contents. c.args.straightened.now.items ++ map (sent p) (map command_of contents)) reads.is)
