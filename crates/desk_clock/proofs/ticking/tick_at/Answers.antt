use Rattle.std.proofs.Common.{◌≡◌, [], List, length, sym, subst, Some, None, to_z, of_z, w64, rules}
use Rattle.deliveries.specs.declared.delivery.Delivery.{Delivery as a_delivery}
use Rattle.deliveries.specs.declared.delivery.Delivery.TheVariants.{Tick}
use Rattle.deliveries.specs.Delivered.{Holds}
use Rattle.desk_settling.specs.Kept.{AreToday}
use Rattle.deliveries.specs.declared.reply.Reply.TheVariants.{Ticked}
use Rattle.deliveries.specs.Clocked.{Settles}
use Rattle.deliveries.proofs.DeliveredLemmas.{Delivers-made, Delivers-not_made}
use Rattle.deliveries.specs.Events.{machine}
use Rattle.deliveries.specs.Machine.{changes_shown_at}
use Rattle.desk_clock.proofs.ClockedLemmas.{Tells-held, rested-held, ticked-reply, ticked-tables}
use Rattle.store.proofs.ReadLemmas.{changes_once_commit}
use Rattle.deliveries.proofs.ImportedLemmas.{imported_commit, imported_then}
use Rattle.desk_clock.proofs.TodayLemmas.{today_of}
use Rattle.desk_clock.proofs.ticking.tick_at.Given as given
use Rattle.desk_clock.proofs.ticking.tick_at.Goals.{After-commit}
use Rattle.desk_clock.proofs.ticking.tick_at.Goals as goal

-- the change settles the schedules
settled : (g : given.Over) (c : After-commit g) (earlier : List a_delivery)
    → c.args.last ≡ (g.S.Store.standing c.args.store.now).content.tables.last_tick → (g.S.Store.standing c.commit.new.self).is_honest
    → AreToday c.args.building.now (g.S.Store.standing c.args.store.now).content.tables.imported c.args.kept.now
    → Holds c.args.building.now earlier (g.S.Store.standing c.args.store.now)
    → Settles c.args.building.now (machine c.args.building.now earlier).imported (g.S.Store.standing c.args.store.now).content.tables.shown
    (Some c.args.local) [] (Some c.args.moment) c.in_ok-change.change
settled g c earlier last_is honest today held =
    let b = c.args.building.now in
    let first = g.S.Store.standing c.args.store.now in
    let m = machine b earlier in
    let whole : to_z w64 (of_z w64 c.args.moment) ≡ c.args.moment = search rules in
    let rested = subst (λ since. changes_shown_at b m.imported first.content.tables.shown since ≡ []) (sym c.local_of-since.ensures)
    (rested-held b earlier first c.names_are_distinct.ensures.schedules held c.args.last last_is) in
    subst (λ z. Settles b m.imported first.content.tables.shown (Some c.args.local) [] (Some z) c.in_ok-change.change) whole
    (c.in_ok-change.ensures.settles (c.commit.ensures.commits.goes.honest honest) today m.imported (Tells-held b earlier first held) rested)

pub returns-in-Ok-clause-delivers : goal.returns-in-Ok-clause-delivers
returns-in-Ok-clause-delivers g c = λ earlier is_at last_is later honest today held.
    let b = c.args.building.now in
    let change = c.in_ok-change.change in
    let first = g.S.Store.standing c.args.store.now in
    let settles = settled g (goal.at.returns-in-Ok-clause-delivers g c).After-commit earlier last_is honest today held in
    let count : c.len.result ≡ length change.places.items = search rules in
    Delivers-made b earlier (Tick c.args.moment) change first _ (g.S.Store.standing c.commit.new.self) c.in_ok-change.ensures.reads honest held
    (ticked-tables b earlier first held c.args.moment c.args.local change is_at later settles) (Ticked c.len.result) c.in-Ok.ensures.commits
    (ticked-reply b earlier first held c.args.moment c.args.local change is_at later settles c.len.result count)

pub returns-clause-delivers : goal.returns-clause-delivers
returns-clause-delivers g c = λ earlier is_at last_is later honest today held.
    let b = c.args.building.now in
    let first = g.S.Store.standing c.args.store.now in
    Delivers-not_made b earlier (Tick c.args.moment) c.in_ok-change.change first _ (g.S.Store.standing c.commit.new.self)
    c.in_ok-change.ensures.reads honest held
    (ticked-tables b earlier first held c.args.moment c.args.local c.in_ok-change.change is_at later
    (settled g (goal.at.returns-clause-delivers g c).After-commit earlier last_is honest today held)) c.in-Err.fault c.in-Err.ensures.commits

pub returns-in-Ok-clause-changes_once : goal.returns-in-Ok-clause-changes_once
returns-in-Ok-clause-changes_once g c =
    changes_once_commit c.in_ok-change.change _ _ _ _ c.in_ok-change.ensures.reads c.in-Ok.ensures.commits

pub returns-clause-changes_once : goal.returns-clause-changes_once
returns-clause-changes_once g c =
    changes_once_commit c.in_ok-change.change _ _ _ _ c.in_ok-change.ensures.reads c.in-Err.ensures.commits

pub returns-in-Ok-clause-today : goal.returns-in-Ok-clause-today
returns-in-Ok-clause-today g c = λ honest going today.
    let b = c.args.building.now in
    let first = g.S.Store.standing c.args.store.now in
    let second = g.S.Store.standing c.ticked_change.new.store in
    let third = g.S.Store.standing c.commit.new.self in
    let commits = c.in-Ok.ensures.commits in
    let before = commits.goes.honest honest in
    let same : third.content.tables.imported ≡ first.content.tables.imported =
    imported_then first second third c.in_ok-change.ensures.reads commits.goes.honest
    (imported_commit c.in_ok-change.change None second third commits c.in_ok-change.ensures.imports) honest going in
    today_of b first.content.tables.imported third.content.tables.imported c.ticked_change.new.kept same
    (c.in_ok-change.ensures.today before today)

pub returns-clause-today : goal.returns-clause-today
returns-clause-today g c = λ honest going today.
    let b = c.args.building.now in
    let first = g.S.Store.standing c.args.store.now in
    let second = g.S.Store.standing c.ticked_change.new.store in
    let third = g.S.Store.standing c.commit.new.self in
    let commits = c.in-Err.ensures.commits in
    let before = commits.goes.honest honest in
    let same : third.content.tables.imported ≡ first.content.tables.imported =
    imported_then first second third c.in_ok-change.ensures.reads commits.goes.honest
    (imported_commit c.in_ok-change.change (Some c.in-Err.fault) second third commits c.in_ok-change.ensures.imports) honest going in
    today_of b first.content.tables.imported third.content.tables.imported c.ticked_change.new.kept same
    (c.in_ok-change.ensures.today before today)
