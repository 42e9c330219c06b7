use Rattle.std.proofs.Common.{◌∙◌, ℕ, ◌<◌, cond, None, ap, arith, length}
use Rattle.std.specs.Str.{bytes_eq}
use Rattle.desk_adopt.specs.Adopted.{no_rows}
use Rattle.store_copy.specs.Remembered.{remembered_row}
use Rattle.store_copy.specs.Named.{or_else}
use Rattle.desk_adopt.specs.Renamed.{former}
use Rattle.points.specs.declared.panel.Panel.{Panel}
use Rattle.store.specs.Change.{with_each, with_row}
use Rattle.store.specs.Standing.{Content}
use Rattle.points.specs.Texts.{Text}
use Rattle.store.proofs.ReadLemmas.{Reads-then, kept-read}
use Rattle.desk_adopt.proofs.ItemLemmas.{items-step, or_else-here, same_name}
use Rattle.desk_adopt.proofs.panels.adopted_rows.Goals as goal

pub loop-panel-preserved : goal.loop-panel-preserved
loop-panel-preserved g c =
    let so_far = c.loop-panel.invariant in
    let first = g.S.Store.standing c.args.store.now in
    let old = g.S.Store.standing c.loop-panel.store in
    let new = g.S.Store.standing c.adopt_panel.new.store in
    let panel = c.panel-item.result in
    let had = λ (content : Content) (name : Text) (n : ℕ). remembered_row (former c.args.renamings.now content.tables.next 1 name)
    (former c.args.renamings.now content.tables.row no_rows name) n in
    let before_it = λ (q : Text) (n : ℕ). with_each with_row c.loop-panel.rows.items (λ _. no_rows) q n in
    record {
      reads = Reads-then None first old new so_far.reads c.in_ok-adopt_panel.ensures.reads;
      kept = λ honest q n.
          let before = c.in_ok-adopt_panel.ensures.reads.goes.honest honest in
          let same_content = kept-read first old so_far.reads before in
          let put = λ (r : Text). c.in_ok-adopt_panel.ensures.kept honest r n
          ∙ ap (λ (content : Content). cond (bytes_eq panel.name r) (or_else (had content panel.name n) (before_it r n)) (before_it r n)) same_content in
          let within : c.loop-panel.panel-index < length c.args.panels.now = omega (arith, c.loop-panel-test.true) in
          items-step (λ (it : Panel). it.name) c.args.panels.now (λ name. had first.content name n) None c.loop-panel.panel-index panel
          (λ r. before_it r n) (λ r. with_each with_row c.adopt_panel.new.rows.items (λ _. no_rows) r n) within c.panel-item.is
          (λ r. so_far.kept before r n)
          (λ r other. put r ∙ ap (λ b. cond b (or_else (had first.content panel.name n) (before_it r n)) (before_it r n)) other)
          (λ r same was. put r ∙ ap (λ b. cond b (or_else (had first.content panel.name n) (before_it r n)) (before_it r n)) same
          ∙ ap (λ name. or_else (had first.content name n) (before_it r n)) (same_name panel.name r same)
          ∙ or_else-here (had first.content r n) (before_it r n) was)
          q;
    }
