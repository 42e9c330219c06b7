use Rattle.std.proofs.Common.{◌≡◌, ◌∙◌, ◌++◌, List, ap, subst, sym}
use Rattle.std.proofs.lemmas.List.{append-nil}
use Rattle.points.specs.Texts.{Text}
use Rattle.building.specs.Building.{Building as a_building}
use Rattle.deliveries.specs.Machine.{is_known}
use Rattle.desk_clock.specs.Knowing.{Knows, has_in_file, in_file, is_read}
use Rattle.desk_clock.proofs.KnowingLemmas.{adds-item, adds-nothing, known-once}
use Rattle.store_memory.specs.Held.{imported_of}
use Rattle.desk_settling.specs.Calendars.{Tells, with_items}
use Rattle.store.specs.declared.change.ImportedEntry.{ImportedEntry}
use Rattle.desk_clock.proofs.adding.add_to.Given as given
use Rattle.desk_clock.proofs.adding.add_to.Goals.{After-has}
use Rattle.desk_clock.proofs.adding.add_to.Goals as goal

pub returns-clause-knows : goal.returns-clause-knows
returns-clause-knows g c = λ honest building file knew.
    let table = (g.S.Store.standing c.args.store.now).content.tables.imported in
    let items = c.args.items.now.items in
    let read = c.in_ok-read_once.ensures.knows honest building items file knew in
    let more = c.in_ok-add.ensures.knows building table items read in
    subst (λ (list : List ImportedEntry). Knows c.add.new.known building table list) (sym c.in_ok-push.ensures.items) more

-- whether the calendar knows the entry, beside the items before it
has_known : (g : given.Over) (c : After-has g) → (g.S.Store.standing c.read_once.new.store).is_honest → (building : a_building)
    → ((text : Text) → in_file building c.args.calendar.now.name text ≡ has_in_file c.args.calendar.now text)
    → Knows c.args.known.now building (g.S.Store.standing c.args.store.now).content.tables.imported c.args.items.now.items
    → (imported : Text → List Text) → Tells (g.S.Store.standing c.args.store.now).content.tables.imported imported
    → c.has.result ≡ is_known (with_items imported c.args.items.now.items) c.args.calendar.now c.args.entry.now
has_known g c honest building file knew imported tells =
    let table = (g.S.Store.standing c.args.store.now).content.tables.imported in
    let items = c.args.items.now.items in
    let calendar = c.args.calendar.now in
    let read = c.in_ok-read_once.ensures.knows honest building items file knew in
    c.has.ensures ∙ ap (imported_of c.read_once.new.known.texts calendar.name) c.in_ok-text.ensures.value
    ∙ known-once building table imported calendar items c.args.entry.now (imported_of c.read_once.new.known.texts)
    (is_read c.read_once.new.known) c.in_ok-read_once.ensures.is_read file read tells

pub returns-then-has-clause-adds : goal.returns-then-has-clause-adds
returns-then-has-clause-adds g c = λ honest building file knew imported tells.
    let items = c.args.items.now.items in
    let known = has_known g (goal.at.returns-then-has-clause-adds g c).After-has honest building file knew imported tells in
    sym (ap (λ (more : List ImportedEntry). items ++ more)
    (adds-nothing (with_items imported items) c.args.calendar.now c.args.entry.now c.has.result known c.if-has.true) ∙ append-nil items)

pub returns-clause-adds : goal.returns-clause-adds
returns-clause-adds g c = λ honest building file knew imported tells.
    let items = c.args.items.now.items in
    let known = has_known g (goal.at.returns-clause-adds g c).After-has honest building file knew imported tells in
    c.in_ok-push.ensures.items ∙ ap (λ (more : List ImportedEntry). items ++ more)
    (sym (adds-item (with_items imported items) c.args.calendar.now c.args.entry.now c.has.result known c.if-has.false))
