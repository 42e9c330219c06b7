use Rattle.std.proofs.Common.{◌≡◌, ◌<◌, ◌+◌, None, arith, length, rules, subst, sym, take}
use Rattle.store.specs.Listed.{AreEntries}
use Rattle.store.specs.Standing.{Content}
use Rattle.store.proofs.ReadLemmas.{Reads-then, kept-read}
use Rattle.desk_adopt.specs.Surveyed.{AreCounted}
use Rattle.desk_adopt.proofs.ReadLemmas.{taken-more}
use Rattle.desk_adopt.proofs.SurveyLemmas.{counted-more}
use Rattle.desk_adopt.proofs.reading.count_entries.Goals as goal

pub loop-calendar-preserved : goal.loop-calendar-preserved
loop-calendar-preserved g c =
    let first = g.S.Store.standing c.args.store.now in
    let mid = g.S.Store.standing c.loop-calendar.store in
    let last = g.S.Store.standing c.entries.new.self in
    let tables = first.content.tables in
    let index = c.loop-calendar.calendar-index in
    let below : index < length c.args.calendars.now = omega arith in
    let size : c.len.result ≡ length c.in_ok-entries.entries.items = search rules in
    record {
      reads = Reads-then None first mid last c.loop-calendar.invariant.reads c.in_ok-entries.ensures.reads;
      counted = λ honest.
          let was = c.in_ok-entries.ensures.reads.goes.honest honest in
          let same = kept-read first mid c.loop-calendar.invariant.reads was in
          let here : AreEntries tables c.calendar-item.result c.in_ok-entries.entries.items =
          subst (λ (k : Content). AreEntries k.tables c.calendar-item.result c.in_ok-entries.entries.items) same
          (c.in_ok-entries.ensures.value honest) in
          subst (λ n. AreCounted tables (take (index + 1) c.args.calendars.now) (c.loop-calendar.count + n)) (sym size)
          (subst (λ l. AreCounted tables l (c.loop-calendar.count + length c.in_ok-entries.entries.items))
          (sym (taken-more c.args.calendars.now index c.calendar-item.result below c.calendar-item.is))
          (counted-more tables (take index c.args.calendars.now) c.loop-calendar.count c.calendar-item.result
          c.in_ok-entries.entries.items (c.loop-calendar.invariant.counted was) here));
      fits = omega (arith, c.loop-calendar.invariant.fits, c.len.auto);
    }
