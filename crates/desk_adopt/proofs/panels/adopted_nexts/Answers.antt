use Rattle.std.proofs.Common.{◌≡◌, ◌∙◌, ◌<◌, ◌&&◌, ◌==◌, not, cond, None, ap, arith, length}
use Rattle.desk_adopt.specs.Adopted.{no_next}
use Rattle.desk_adopt.specs.Renamed.{former}
use Rattle.points.specs.declared.panel.Panel.{Panel}
use Rattle.store.specs.Change.{with_each, with_next}
use Rattle.store.specs.Standing.{Content}
use Rattle.store.proofs.ReadLemmas.{Reads-then, kept-read}
use Rattle.desk_adopt.proofs.ItemLemmas.{items-step, next-here, same_name}
use Rattle.desk_adopt.proofs.panels.adopted_nexts.Goals as goal

pub loop-panel-preserved : goal.loop-panel-preserved
loop-panel-preserved g c =
    let so_far = c.loop-panel.invariant in
    let first = g.S.Store.standing c.args.store.now in
    let old = g.S.Store.standing c.loop-panel.store in
    let new = g.S.Store.standing c.former_next.new.store in
    let panel = c.panel-item.result in
    let next = c.in_ok-next.next in
    let before_it = with_each with_next c.loop-panel.nexts.items no_next in
    record {
      reads = Reads-then None first old new so_far.reads c.in_ok-next.ensures.reads;
      kept = λ honest.
          let before = c.in_ok-next.ensures.reads.goes.honest honest in
          let table = former c.args.renamings.now first.content.tables.next 1 in
          let read : next ≡ table panel.name = c.in_ok-next.ensures.value honest
          ∙ ap (λ (content : Content). former c.args.renamings.now content.tables.next 1 panel.name) (kept-read first old so_far.reads before) in
          let within : c.loop-panel.panel-index < length c.args.panels.now = omega (arith, c.loop-panel-test.true) in
          items-step (λ (it : Panel). it.name) c.args.panels.now table 1 c.loop-panel.panel-index panel before_it
          (with_each with_next c.keep_next.new.nexts.items no_next) within c.panel-item.is (so_far.kept before)
          (λ q other. c.in_ok-keep_next.ensures q ∙ ap (λ b. cond (b && not (next == 1)) next (before_it q)) other)
          (λ q same was. c.in_ok-keep_next.ensures q ∙ ap (λ b. cond (b && not (next == 1)) next (before_it q)) same
          ∙ next-here next (table q) (before_it q) (read ∙ ap table (same_name panel.name q same)) was);
    }
