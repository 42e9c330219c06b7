use Rattle.std.proofs.Common.{◌≡◌, ◌<◌, ◌∙◌, None, Some, IfSome, length, ap, arith, sym, subst}
use Rattle.std.specs.List.{flat_map}
use Rattle.std.specs.Prelude.{slice_get}
use Rattle.store.proofs.ReadLemmas.{Reads-then, kept-read}
use Rattle.store.specs.Standing.{Content}
use Rattle.jiff_core.specs.declared.civil.date.Date.{Date}
use Rattle.desk_settling.specs.Kept.{current_of}
use Rattle.desk_settling.specs.Rests.{HaveRested, Rests, at_time}
use Rattle.desk_settling.specs.Settled.{cleared_by, put_by, shown_by}
use Rattle.desk_settling.specs.Turns.{now_at}
use Rattle.desk_settling.proofs.KeptLemmas.{here_get}
use Rattle.desk_settling.proofs.RestLemmas.{adds_none, nothing_cleared, nothing_put, nothing_shown, rested_each}
use Rattle.desk_settling.proofs.StepLemmas.{each-more, own-turn, priority-first}
use Rattle.desk_settling.proofs.settlement.settle_each.Goals as goal

pub loop-index-preserved : goal.loop-index-preserved
loop-index-preserved g c =
    let first = g.S.Store.standing c.args.store.now in
    let read = g.S.Store.standing c.loop-index.store in
    let last = g.S.Store.standing c.settle_one.new.store in
    let so_far = c.loop-index.invariant in
    let now = now_at c.args.kept.now.calendars.items c.args.local.now in
    let shown = first.content.tables.shown in
    let schedules = c.args.schedules.now in
    let at = c.loop-index.index in
    let s = c.index-schedules-index.result in
    let within : at < length schedules = omega (arith, c.loop-index-test.true) in
    let here : slice_get schedules at ≡ Some s = here_get schedules at s within c.index-schedules-index.is in
    let same_day = so_far.day ∙ c.requires.day in
    let value : c.current-value.result ≡ current_of now s =
    subst (λ calendars. c.current-value.result ≡ current_of (now_at calendars.items c.args.local.now) s) so_far.calendars
    (c.current-value.ensures.current schedules same_day here so_far.spans) in
    let old = c.loop-index.all in
    let new = c.settle_one.new.written in
    let before = λ (honest : last.is_honest). c.in_ok-settle_one.ensures.reads.goes.honest honest in
    let turned = λ (honest : last.is_honest). own-turn now shown read.content.tables.shown s old new
    (ap (λ (content : Content). content.tables.shown) (kept-read first read so_far.reads (before honest)))
    (c.in_ok-settle_one.ensures.turns honest now value) in
    record {
      reads = Reads-then None first read last so_far.reads c.in_ok-settle_one.ensures.reads;
      priorities = (priority-first schedules at s within c.index-schedules-index.is so_far.priorities).1;
      cleared = λ honest rested. each-more (cleared_by now shown) schedules at s old.cleared.items new.cleared.items
          (flat_map (cleared_by now shown) schedules) within c.index-schedules-index.is (turned honest).0 (so_far.cleared (before honest) rested);
      put = λ honest rested. each-more (put_by now shown) schedules at s old.put.items new.put.items
          (flat_map (put_by now shown) schedules) within c.index-schedules-index.is (turned honest).1 (so_far.put (before honest) rested);
      changes_shown = λ honest rested. each-more (shown_by now shown) schedules at s old.shown.items new.shown.items
          (flat_map (shown_by now shown) schedules) within c.index-schedules-index.is (turned honest).2 (so_far.changes_shown (before honest) rested);
      placed_cleared = c.in_ok-settle_one.ensures.cleared;
      placed_put = c.in_ok-settle_one.ensures.put;
      spans = c.current-value.ensures.spans schedules same_day here so_far.spans;
      day = c.current-value.ensures.day ∙ so_far.day;
      calendars = c.current-value.ensures.calendars ∙ so_far.calendars;
    }

-- one that rests adds nothing
pub loop-index-preserved-then-rests : goal.loop-index-preserved-then-rests
loop-index-preserved-then-rests g c =
    let first = g.S.Store.standing c.args.store.now in
    let so_far = c.loop-index.invariant in
    let today = c.args.kept.now.calendars.items in
    let local = c.args.local.now in
    let now = now_at today local in
    let shown = first.content.tables.shown in
    let schedules = c.args.schedules.now in
    let since = c.args.since.now in
    let at = c.loop-index.index in
    let s = c.index-schedules-index.result in
    let within : at < length schedules = omega (arith, c.loop-index-test.true) in
    let here : slice_get schedules at ≡ Some s = here_get schedules at s within c.index-schedules-index.is in
    let old = c.loop-index.all in
    let rests : HaveRested today local.day shown schedules since → Rests now shown s = λ rested.
    let then = c.loop-index.kept.calendars in
    let same_day = so_far.day ∙ c.requires.day in
    subst (λ calendars. Rests (at_time calendars.items local.day local.time) shown s) so_far.calendars
    (subst (λ (day : Date). Rests (at_time then.items day local.time) shown s) same_day
    (c.rests.ensures schedules shown here so_far.spans
    (subst (λ (day : Date). IfSome since (λ earlier. Rests (at_time then.items day earlier) shown s)) (sym same_day)
    (subst (λ calendars. IfSome since (λ earlier. Rests (at_time calendars.items local.day earlier) shown s)) (sym so_far.calendars)
    (rested_each today local.day shown schedules at s since rested here))) c.if-rests.true)) in
    record {
      reads = so_far.reads;
      priorities = (priority-first schedules at s within c.index-schedules-index.is so_far.priorities).1;
      cleared = λ honest rested. each-more (cleared_by now shown) schedules at s old.cleared.items old.cleared.items
          (flat_map (cleared_by now shown) schedules) within c.index-schedules-index.is
          (adds_none old.cleared.items _ (nothing_cleared now shown s (rests rested))) (so_far.cleared honest rested);
      put = λ honest rested. each-more (put_by now shown) schedules at s old.put.items old.put.items
          (flat_map (put_by now shown) schedules) within c.index-schedules-index.is
          (adds_none old.put.items _ (nothing_put now shown s (rests rested))) (so_far.put honest rested);
      changes_shown = λ honest rested. each-more (shown_by now shown) schedules at s old.shown.items old.shown.items
          (flat_map (shown_by now shown) schedules) within c.index-schedules-index.is
          (adds_none old.shown.items _ (nothing_shown now shown s (rests rested))) (so_far.changes_shown honest rested);
      placed_cleared = so_far.placed_cleared;
      placed_put = so_far.placed_put;
      spans = so_far.spans;
      day = so_far.day;
      calendars = so_far.calendars;
    }
