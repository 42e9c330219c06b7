use Rattle.std.proofs.Common.{◌≡◌, ◌∙◌, ◌-◌, [], List, None, length, sym, ap, subst, rules}
use Rattle.deliveries.specs.declared.delivery.Delivery.{Delivery as a_delivery}
use Rattle.deliveries.specs.declared.delivery.Delivery.TheVariants.{Import}
use Rattle.deliveries.specs.Delivered.{Holds}
use Rattle.deliveries.specs.declared.reply.Reply.TheVariants.{Imported}
use Rattle.deliveries.specs.Clocked.{Settles}
use Rattle.deliveries.specs.Events.{machine}
use Rattle.deliveries.specs.Machine.{added, local_of}
use Rattle.deliveries.proofs.QuietLemmas.{tables-known}
use Rattle.deliveries.proofs.DeliveredLemmas.{Delivers-made, Delivers-not_made, Delivers-read_only}
use Rattle.desk_settling.specs.Calendars.{Tells, with_items}
use Rattle.store.specs.Standing.{Content}
use Rattle.store.proofs.ReadLemmas.{Reads-then, changes_once_commit, kept-read}
use Rattle.desk_clock.proofs.ClockedLemmas.{Settled-over, Tells-held, imported-reply, none_in, reply-known, imported-tables, last_of-held}
use Rattle.desk_clock.proofs.importing.import.Given as given
use Rattle.desk_clock.proofs.importing.import.Goals.{After-commit}
use Rattle.desk_clock.proofs.importing.import.Goals as goal

-- the items that are added
added_are : (g : given.Over) (c : After-commit g) (earlier : List a_delivery) → (g.S.Store.standing c.commit.new.self).is_honest
    → Holds c.args.building.now earlier (g.S.Store.standing c.args.store.now)
    → c.in_ok-items.items.items ≡ added c.args.building.now (machine c.args.building.now earlier).imported c.args.rows.now
added_are g c earlier honest held =
    c.in_ok-items.ensures.added (c.in_ok-change.ensures.reads.goes.honest (c.commit.ensures.commits.goes.honest honest))
    (machine c.args.building.now earlier).imported
    (Tells-held c.args.building.now earlier (g.S.Store.standing c.args.store.now) held)

-- the change settles the schedules beside them
settled : (g : given.Over) (c : After-commit g) (earlier : List a_delivery)
    → c.args.last ≡ (g.S.Store.standing c.args.store.now).content.tables.last_tick → (g.S.Store.standing c.commit.new.self).is_honest
    → Holds c.args.building.now earlier (g.S.Store.standing c.args.store.now)
    → Settled-over c.args.building.now (g.S.Store.standing c.args.store.now) c.in_ok-items.items.items
    (local_of c.args.building.now (machine c.args.building.now earlier).last_tick) None c.in_ok-change.change
settled g c earlier last_is honest held = λ imported tells.
    let b = c.args.building.now in
    let first = g.S.Store.standing c.args.store.now in
    let changed = c.commit.ensures.commits.goes.honest honest in
    let kept = kept-read first (g.S.Store.standing c.added_items.new.store) c.in_ok-items.ensures.reads
    (c.in_ok-change.ensures.reads.goes.honest changed) in
    let items = c.in_ok-items.items.items in
    let change = c.in_ok-change.change in
    let here = subst (λ (content : Content). Tells content.tables.imported imported) (sym kept) tells in
    subst (λ local. Settles b (with_items imported items) first.content.tables.shown local items None change)
    (c.local_of-local.ensures ∙ ap (local_of b) (last_is ∙ last_of-held b earlier first held))
    (subst (λ (content : Content). Settles b (with_items imported items) content.tables.shown c.local_of-local.result items None
    change) kept (c.in_ok-change.ensures.settles changed imported here))

pub returns-in-Ok-clause-delivers : goal.returns-in-Ok-clause-delivers
returns-in-Ok-clause-delivers g c = λ earlier none last_is honest held.
    let at = (goal.at.returns-in-Ok-clause-delivers g c).After-commit in
    let b = c.args.building.now in
    let rows = c.args.rows.now in
    let change = c.in_ok-change.change in
    let first = g.S.Store.standing c.args.store.now in
    let items = c.in_ok-items.items.items in
    let items_are = added_are g at earlier honest held in
    let settles = settled g at earlier last_is honest held in
    let count : c.len.result ≡ length change.places.items = search rules in
    let new : c.len-added.result ≡ length items = search rules in
    let known : c.saturating_sub.result ≡ length rows - length items = search rules in
    Delivers-made b earlier (Import rows) change first _ (g.S.Store.standing c.commit.new.self)
    (Reads-then None _ _ _ c.in_ok-items.ensures.reads c.in_ok-change.ensures.reads) honest held
    (imported-tables b earlier first held rows none items items_are change settles) _ c.in-Ok.ensures.commits
    ((λ i. Imported (new i) (known i) c.len.result)
    ∙ imported-reply b earlier first held rows none items items_are change settles c.len.result count)

pub returns-clause-delivers : goal.returns-clause-delivers
returns-clause-delivers g c = λ earlier none last_is honest held.
    let at = (goal.at.returns-clause-delivers g c).After-commit in
    let b = c.args.building.now in
    let first = g.S.Store.standing c.args.store.now in
    Delivers-not_made b earlier (Import c.args.rows.now) c.in_ok-change.change first _ (g.S.Store.standing c.commit.new.self)
    (Reads-then None _ _ _ c.in_ok-items.ensures.reads c.in_ok-change.ensures.reads) honest held
    (imported-tables b earlier first held c.args.rows.now none c.in_ok-items.items.items (added_are g at earlier honest held)
    c.in_ok-change.change (settled g at earlier last_is honest held)) c.in-Err.fault c.in-Err.ensures.commits

pub returns-in-Ok-clause-changes_once : goal.returns-in-Ok-clause-changes_once
returns-in-Ok-clause-changes_once g c =
    changes_once_commit c.in_ok-change.change _ _ _ _
    (Reads-then None _ _ _ c.in_ok-items.ensures.reads c.in_ok-change.ensures.reads) c.in-Ok.ensures.commits

pub returns-clause-changes_once : goal.returns-clause-changes_once
returns-clause-changes_once g c =
    changes_once_commit c.in_ok-change.change _ _ _ _
    (Reads-then None _ _ _ c.in_ok-items.ensures.reads c.in_ok-change.ensures.reads) c.in-Err.ensures.commits

pub returns-then-is_empty-clause-delivers : goal.returns-then-is_empty-clause-delivers
returns-then-is_empty-clause-delivers g c = λ earlier none last_is honest held.
    let b = c.args.building.now in
    let rows = c.args.rows.now in
    let first = g.S.Store.standing c.args.store.now in
    let read = g.S.Store.standing c.added_items.new.store in
    let size : length c.in_ok-items.items.items ≡ 0 = search rules in
    let empty : c.in_ok-items.items.items ≡ [] = none_in c.in_ok-items.items.items size in
    let nothing : added b (machine b earlier).imported rows ≡ [] =
    sym (c.in_ok-items.ensures.added honest (machine b earlier).imported (Tells-held b earlier first held)) ∙ empty in
    Delivers-read_only b earlier (Import rows) (Imported 0 (length rows) 0) first read c.in_ok-items.ensures.reads honest held
    (sym (reply-known b earlier rows none nothing c.names_are_distinct.ensures.schedules))
    (tables-known b earlier rows c.names_are_distinct.ensures.schedules nothing)

pub returns-in-Ok-clause-spans : goal.returns-in-Ok-clause-spans
returns-in-Ok-clause-spans g c = c.in_ok-change.ensures.spans c.args.building.now

pub returns-clause-spans : goal.returns-clause-spans
returns-clause-spans g c = c.in_ok-change.ensures.spans c.args.building.now

pub returns-in-Ok-clause-today : goal.returns-in-Ok-clause-today
returns-in-Ok-clause-today g c = λ honest going today.
    c.in_ok-change.ensures.today c.args.building.now (g.S.Store.standing c.commit.new.self).content.tables.imported

pub returns-clause-today : goal.returns-clause-today
returns-clause-today g c = λ honest going today.
    c.in_ok-change.ensures.today c.args.building.now (g.S.Store.standing c.commit.new.self).content.tables.imported

pub returns-in_err-change-clause-spans : goal.returns-in_err-change-clause-spans
returns-in_err-change-clause-spans g c = c.settled_change.ensures.spans c.args.building.now

pub returns-in_err-change-clause-today : goal.returns-in_err-change-clause-today
returns-in_err-change-clause-today g c = λ honest going today.
    c.settled_change.ensures.today c.args.building.now (g.S.Store.standing c.settled_change.new.store).content.tables.imported
