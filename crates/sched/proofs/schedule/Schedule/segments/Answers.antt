use Rattle.std.proofs.Common.{◌≡◌, ◌∙◌, ◌<◌, ◌+◌, ℕ, ℤ, Option, length, get_or, sym, ap, arith, add-one, List, below_more, subst}
use Rattle.std.proofs.lemmas.List.{get_or_read}
use Rattle.std.specs.List.Sorted.{IsPermutation, IsSorted}
use Rattle.std.specs.Ordering.{nat_cmp}
use Rattle.jiff_core.specs.declared.civil.date.Date.{Date}
use Rattle.sched.specs.declared.calendar.Calendar.{Calendar}
use Rattle.sched.specs.declared.day_list.TimeValue.{TimeValue}
use Rattle.sched.specs.declared.schedule.Schedule.{Schedule}
use Rattle.sched.specs.declared.time.TheConstants.{HUNDREDTHS_A_DAY}
use Rattle.sched.specs.Named.{named_times}
use Rattle.sched.specs.Schedule.{schedule_value}
use Rattle.sched.specs.Segments.{segments_below, segments_of, with_change}
use Rattle.sched.proofs.SegmentLemmas.{Rises, change-time, covered-all, covered}
use Rattle.sched.proofs.QuietLemmas.{Rises-sorted}
use Rattle.sched.proofs.schedule.Schedule.segments.Goals as goal

rises_from : (schedule : Schedule) (calendars : List Calendar) (day : Date) (gathered sorted times : List ℕ)
    → gathered ≡ named_times schedule calendars day → IsPermutation gathered sorted → IsSorted nat_cmp sorted → times ≡ sorted
    → Rises (λ c. schedule_value schedule calendars day c) times
rises_from schedule calendars day gathered sorted times named permuted rising same =
    subst (Rises (λ c. schedule_value schedule calendars day c)) (sym same)
    (Rises-sorted schedule calendars day sorted (subst (λ (g : List ℕ). IsPermutation g sorted) named permuted) rising)

stepped : (value : ℕ → Option ℤ) (times : List ℕ) (rises : Rises value times) (i item : ℕ) (here : Option ℤ)
    (before after : List TimeValue) → i < length times → item ≡ get_or times i 0
    → here ≡ value item → before ≡ segments_below value (covered times i)
    → after ≡ with_change before (record { time = item; value = here }) → after ≡ segments_below value (covered times (i + 1))
stepped value times rises i item here before after within is valued so_far pushed =
    pushed
    ∙ (λ k. with_change (so_far k) (record { time = is k; value = (valued ∙ ap value is) k }))
    ∙ change-time value times rises i within
    ∙ ap (λ (j : ℕ). segments_below value (covered times j)) (sym (add-one i))

pub loop-time-preserved : goal.loop-time-preserved
loop-time-preserved c =
    let times = c.deref-time-items.result.now in
    let i = c.loop-time.time-index in
    let within : i < length times = omega (arith, c.loop-time-test.true) in
    let is = get_or_read times i c.time-item.result within c.time-item.is 0 in
    let rises = rises_from c.args.self.now c.args.calendars.now c.args.day c.in_ok-times.times.items c.sort.new.self.items times
    c.in_ok-times.ensures c.in_ok-sort.ensures.permutation c.in_ok-sort.ensures.sorted c.deref-time-items.ensures.value in
    let before = c.loop-time.segments.items in
    let after = c.push_change.new.segments.items in
    let on_the_day = rw c.hundredths.ensures.value at c.hundredths.ensures.within in
    record {
      so_far =
          stepped (λ t. schedule_value c.args.self.now c.args.calendars.now c.args.day t) times rises i c.time-item.result
          c.value_now-value.result
          before after within is c.value_now-value.ensures c.loop-time.invariant.so_far c.in_ok-push_change.ensures;
      in_day = below_more _ _ c.loop-time.invariant.in_day (subst (λ t. t < HUNDREDTHS_A_DAY) is on_the_day);
    }

pub returns : goal.returns
unfolding segments_of
returns c =
    let times = c.deref-time-items.result.now in
    let rises = rises_from c.args.self.now c.args.calendars.now c.args.day c.in_ok-times.times.items c.sort.new.self.items times
    c.in_ok-times.ensures c.in_ok-sort.ensures.permutation c.in_ok-sort.ensures.sorted c.deref-time-items.ensures.value in
    let done : c.loop-time.time-index ≡ length times = omega (arith, c.loop-time-test.false) in
    c.loop-time.invariant.so_far
    ∙ covered-all (λ t. schedule_value c.args.self.now c.args.calendars.now c.args.day t) times rises HUNDREDTHS_A_DAY
    c.loop-time.time-index done
    (λ k within. c.loop-time.invariant.in_day k (omega (arith, done, within)))
