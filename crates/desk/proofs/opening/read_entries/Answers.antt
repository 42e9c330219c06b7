use Rattle.std.proofs.Common.{◌≡◌, ◌<◌, ◌∙◌, Bool, None, ap, arith, false, length, refl, subst, sym, take_all}
use Rattle.std.specs.List.{list_any}
use Rattle.store.specs.Asked.{Asked}
use Rattle.store.specs.Asked.Asked.{EntriesOf}
use Rattle.store.proofs.ReadLemmas.{Reads-then}
use Rattle.store.proofs.StoodLemmas.{more_stood, not_true}
use Rattle.desk.proofs.opening.read_entries.Goals as goal

pub loop-calendar-init : goal.loop-calendar-init
loop-calendar-init g c = record { reads = c.requires; stood = λ honest. refl }

pub loop-calendar-preserved : goal.loop-calendar-preserved
loop-calendar-preserved g c =
    let first = g.S.Store.standing c.args.store.now in
    let mid = g.S.Store.standing c.loop-calendar.store in
    let last = g.S.Store.standing c.entries.new.self in
    let below : c.loop-calendar.calendar-index < length c.args.calendars.now = omega arith in
    record {
      reads = Reads-then None first mid last c.loop-calendar.invariant.reads c.in_ok-_entries.ensures.reads;
      stood = λ honest.
          let was = c.in_ok-_entries.ensures.reads.goes.honest honest in
          let same : mid.cannot_stand ≡ first.cannot_stand = c.loop-calendar.invariant.reads.rows was (λ e. cc) in
          more_stood (λ it. first.cannot_stand (EntriesOf it.name)) c.args.calendars.now c.loop-calendar.calendar-index c.calendar-item.result below
          c.calendar-item.is (c.loop-calendar.invariant.stood was)
          (ap (λ (f : Asked → Bool). f (EntriesOf c.calendar-item.result.name)) (sym same)
          ∙ not_true (mid.cannot_stand (EntriesOf c.calendar-item.result.name)) ((c.in_ok-_entries.ensures.judges honest).stood refl));
    }

pub returns-clause-stood : goal.returns-clause-stood
returns-clause-stood g c honest =
    subst (λ l. list_any (λ it. (g.S.Store.standing c.args.store.now).cannot_stand (EntriesOf it.name)) l ≡ false)
    (take_all c.loop-calendar.calendar-index c.args.calendars.now (omega arith)) (c.loop-calendar.invariant.stood honest)
