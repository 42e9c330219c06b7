use Rattle.std.proofs.Common.{◌≡◌, ◌<◌, ◌∙◌, Bool, None, ap, arith, false, length, refl, subst, sym, take_all}
use Rattle.std.specs.List.{list_any}
use Rattle.store.specs.Asked.{Asked}
use Rattle.store.specs.Asked.Asked.{ShownBy}
use Rattle.store.proofs.ReadLemmas.{Reads-then}
use Rattle.store.proofs.StoodLemmas.{more_stood, not_true}
use Rattle.desk_adopt.proofs.reading.read_shown.Goals as goal

pub loop-schedule-init : goal.loop-schedule-init
loop-schedule-init g c = record { reads = c.requires; stood = λ honest. refl }

pub loop-schedule-preserved : goal.loop-schedule-preserved
loop-schedule-preserved g c =
    let first = g.S.Store.standing c.args.store.now in
    let mid = g.S.Store.standing c.loop-schedule.store in
    let last = g.S.Store.standing c.shown.new.self in
    let below : c.loop-schedule.schedule-index < length c.args.schedules.now = omega arith in
    record {
      reads = Reads-then None first mid last c.loop-schedule.invariant.reads c.in_ok-_shown.ensures.reads;
      stood = λ honest.
          let was = c.in_ok-_shown.ensures.reads.goes.honest honest in
          let same : mid.cannot_stand ≡ first.cannot_stand = c.loop-schedule.invariant.reads.rows was (λ e. cc) in
          more_stood (λ it. first.cannot_stand (ShownBy it)) c.args.schedules.now c.loop-schedule.schedule-index c.schedule-item.result below
          c.schedule-item.is (c.loop-schedule.invariant.stood was)
          (ap (λ (f : Asked → Bool). f (ShownBy c.schedule-item.result)) (sym same)
          ∙ not_true (mid.cannot_stand (ShownBy c.schedule-item.result)) ((c.in_ok-_shown.ensures.judges honest).stood refl));
    }

pub returns-clause-stood : goal.returns-clause-stood
returns-clause-stood g c honest =
    subst (λ l. list_any (λ it. (g.S.Store.standing c.args.store.now).cannot_stand (ShownBy it)) l ≡ false)
    (take_all c.loop-schedule.schedule-index c.args.schedules.now (omega arith)) (c.loop-schedule.invariant.stood honest)
