use Rattle.std.proofs.Common.{◌∙◌, None, refl, arith}
use Rattle.window.proofs.DrainLemmas.{contents_step, end_step-same, end_step-apart, drained-contents, drained-end}
use Rattle.window.proofs.draining.drained.Goals as goal
use Rattle.window.proofs.draining.drained.Goals.{then-entry-next, else-entry-next}

pub loop-entry-preserved : goal.loop-entry-preserved
loop-entry-preserved c =
    let run = c.args.run.now in
    let at = c.loop-entry.entry-index in
    let entry = c.entry-item.result in
    let next = c.loop-entry.next in
    let within = c.loop-entry-test.true in
    let so_far = c.loop-entry.invariant in
    record {
      contents = contents_step run at entry _ c.loop-entry.contents.items c.push.new.self.items _
          within c.entry-item.is so_far.contents refl c.in_ok-push.ensures.items;
      end = elim c.if-entry-next.branch [
        | then-entry-next w ↦ end_step-same run at entry next _ _ within c.entry-item.is so_far.end w.if-entry-next.true w.next-is
        | else-entry-next w ↦ end_step-apart run at entry next _ _ within c.entry-item.is so_far.end w.if-entry-next.false w.next-is
      ];
      bound =
          let long = c.in_ok-push.ensures.len in
          elim c.if-entry-next.branch [ then-entry-next w ↦ omega arith | else-entry-next w ↦ omega arith ];
    }

pub overflow_add-next : goal.overflow_add-next
overflow_add-next c =
    let room = c.push.new.self.small in
    let long = c.in_ok-push.ensures.len in
    let within = c.push.new.self.ok.1 in
    omega arith

pub returns : goal.returns
returns c =
    let run = c.args.run.now in
    let at = c.loop-entry.entry-index in
    let past = c.loop-entry-test.false in
    let so_far = c.loop-entry.invariant in
    let next = drained-end run at c.loop-entry.next _ past so_far.end in
    let contents = drained-contents run at c.loop-entry.contents.items _ past so_far.contents in
    λ i. record { next = next i; apply = (c.from_vec.ensures ∙ contents) i; park = None; verdict = c.args.verdict }
