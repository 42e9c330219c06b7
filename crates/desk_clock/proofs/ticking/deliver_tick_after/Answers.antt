use Rattle.std.proofs.Common.{◌≡◌, ◌∙◌, false, true, sym, ap, subst, None, Some, is_some, to_z, of_z, w64, rules}
use Rattle.deliveries.specs.declared.delivery.Delivery.TheVariants.{Tick}
use Rattle.deliveries.specs.declared.reply.Reply.TheVariants.{BadMoment, Old}
use Rattle.deliveries.specs.Delivered.{Delivers}
use Rattle.deliveries.specs.Events.{is_later, is_moment, last_tick_of}
use Rattle.deliveries.proofs.ClockLemmas.{reply-bad_moment, reply-old, tables-bad_moment, tables-old}
use Rattle.deliveries.proofs.DeliveredLemmas.{Delivers-read_only}
use Rattle.local_times.specs.LocalTimes.{local_at}
use Rattle.store.proofs.ReadLemmas.{changes_once_then, kept-read}
use Rattle.store.specs.Standing.{Content}
use Rattle.desk_clock.proofs.ClockedLemmas.{last-held}
use Rattle.desk_clock.proofs.TodayLemmas.{today_of}
use Rattle.desk_clock.proofs.ticking.deliver_tick_after.Goals as goal

pub returns-in_default-clause-delivers : goal.returns-in_default-clause-delivers
returns-in_default-clause-delivers g c = λ earlier honest today held.
    let b = c.args.building.now in
    let moment = c.args.moment in
    let first = g.S.Store.standing c.args.store.now in
    let second = g.S.Store.standing c.last_tick.new.self in
    let whole : to_z w64 (of_z w64 moment) ≡ moment = search rules in
    let none : local_at b.zone moment ≡ None =
    (λ i. local_at (sym c.zone.ensures i) (sym whole i)) ∙ (sym c.local_time.ensures.value ∙ c.in_default.is) in
    let out : is_moment b moment ≡ false = ap is_some none in
    Delivers-read_only b earlier (Tick moment) BadMoment first second c.in_ok-last.ensures.reads honest held
    (sym (reply-bad_moment b earlier moment out)) (tables-bad_moment b earlier moment out)

pub returns-then-not-is_later-clause-delivers : goal.returns-then-not-is_later-clause-delivers
returns-then-not-is_later-clause-delivers g c = λ earlier honest today held.
    let b = c.args.building.now in
    let moment = c.args.moment in
    let first = g.S.Store.standing c.args.store.now in
    let second = g.S.Store.standing c.last_tick.new.self in
    let whole : to_z w64 (of_z w64 moment) ≡ moment = search rules in
    let is_at : local_at b.zone moment ≡ Some c.in-Some.local =
    (λ i. local_at (sym c.zone.ensures i) (sym whole i)) ∙ (sym c.local_time.ensures.value ∙ c.in-Some.is) in
    let in_range : is_moment b moment ≡ true = ap is_some is_at in
    let last = last-held b earlier first held _ (c.in_ok-last.ensures.value honest) in
    let old : is_later (last_tick_of b earlier) moment ≡ false =
    (λ i. is_later (sym last i) (sym whole i)) ∙ (sym c.is_later.ensures ∙ c.if-not-is_later.true) in
    Delivers-read_only b earlier (Tick moment) Old first second c.in_ok-last.ensures.reads honest held
    (sym (reply-old b earlier moment in_range old)) (tables-old b earlier moment old)

pub returns-clause-delivers : goal.returns-clause-delivers
returns-clause-delivers g c = λ earlier honest today held.
    let b = c.args.building.now in
    let moment = c.args.moment in
    let first = g.S.Store.standing c.args.store.now in
    let second = g.S.Store.standing c.last_tick.new.self in
    let third = g.S.Store.standing c.tick_at.new.store in
    let before = c.tick_at.ensures.goes.honest honest in
    let whole : to_z w64 (of_z w64 moment) ≡ moment = search rules in
    let is_at : local_at b.zone moment ≡ Some c.in-Some.local =
    (λ i. local_at (sym c.zone.ensures i) (sym whole i)) ∙ (sym c.local_time.ensures.value ∙ c.in-Some.is) in
    let last = last-held b earlier first held _ (c.in_ok-last.ensures.value before) in
    let same = kept-read first second c.in_ok-last.ensures.reads before in
    let later : is_later (last_tick_of b earlier) moment ≡ true =
    (λ i. is_later (sym last i) (sym whole i)) ∙ (sym c.is_later.ensures ∙ c.if-not-is_later.false) in
    subst (λ z. Delivers b earlier (Tick z) c.tick_at.result third) whole
    (c.tick_at.ensures.delivers earlier (subst (λ z. local_at b.zone z ≡ Some c.in-Some.local) (sym whole) is_at)
    (c.in_ok-last.ensures.value before ∙ ap (λ (content : Content). content.tables.last_tick) (sym same))
    (subst (λ z. is_later (last_tick_of b earlier) z ≡ true) (sym whole) later) honest
    (today_of b first.content.tables.imported second.content.tables.imported c.args.kept.now
    (ap (λ (content : Content). content.tables.imported) (kept-read first second c.in_ok-last.ensures.reads before)) today)
    (kept-read first second c.in_ok-last.ensures.reads before ∙ held))

pub returns-clause-changes_once : goal.returns-clause-changes_once
returns-clause-changes_once g c =
    changes_once_then _ _ _ _ c.in_ok-last.ensures.reads c.tick_at.ensures.goes.honest c.tick_at.ensures.changes_once
