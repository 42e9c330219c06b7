use Rattle.std.proofs.Common.{◌≡◌, ◌<◌, ◌∙◌, Bool, None, ap, arith, false, length, refl, subst, sym, take_all}
use Rattle.std.specs.List.{list_any}
use Rattle.store.specs.Asked.{Asked}
use Rattle.store.specs.Asked.Asked.{NextOf}
use Rattle.store.proofs.ReadLemmas.{Reads-then}
use Rattle.store.proofs.StoodLemmas.{more_stood, not_true}
use Rattle.store.proofs.next_numbers.read_nexts.Goals as goal

pub loop-panel-init : goal.loop-panel-init
loop-panel-init g c = record { reads = c.requires; stood = λ honest. refl }

pub loop-panel-preserved : goal.loop-panel-preserved
loop-panel-preserved g c =
    let first = g.S.Store.standing c.args.store.now in
    let mid = g.S.Store.standing c.loop-panel.store in
    let last = g.S.Store.standing c.panel_next.new.self in
    let below : c.loop-panel.panel-index < length c.args.panels.now = omega arith in
    record {
      reads = Reads-then None first mid last c.loop-panel.invariant.reads c.in_ok-_next.ensures.reads;
      stood = λ honest.
          let was = c.in_ok-_next.ensures.reads.goes.honest honest in
          let same : mid.cannot_stand ≡ first.cannot_stand = c.loop-panel.invariant.reads.rows was (λ e. cc) in
          more_stood (λ it. first.cannot_stand (NextOf it)) c.args.panels.now c.loop-panel.panel-index c.panel-item.result below
          c.panel-item.is (c.loop-panel.invariant.stood was)
          (ap (λ (f : Asked → Bool). f (NextOf c.panel-item.result)) (sym same)
          ∙ not_true (mid.cannot_stand (NextOf c.panel-item.result)) ((c.in_ok-_next.ensures.judges honest).stood refl));
    }

pub returns-clause-stood : goal.returns-clause-stood
returns-clause-stood g c honest =
    subst (λ l. list_any (λ it. (g.S.Store.standing c.args.store.now).cannot_stand (NextOf it)) l ≡ false)
    (take_all c.loop-panel.panel-index c.args.panels.now (omega arith)) (c.loop-panel.invariant.stood honest)
