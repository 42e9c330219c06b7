use Rattle.std.proofs.Common.{◌≡◌, ◌∙◌, List, Option, Some, None, false, ap, subst, refl}
use Rattle.std.specs.FinMap.{empty, get}
use Rattle.std.specs.Prelude.{ℤ}
use Rattle.desk_adopt.specs.Adopted.{kept_value, no_entries, no_next, no_places, no_rows}
use Rattle.store_copy.specs.Remembered.{remembered_row}
use Rattle.desk_adopt.specs.Renamed.{at_items, former}
use Rattle.building.specs.declared.named_calendar.NamedCalendar.{NamedCalendar}
use Rattle.points.specs.declared.panel.Panel.{Panel}
use Rattle.points.specs.declared.point.Point.{Point}
use Rattle.store.specs.Change.{with_change, with_each, with_imported, with_last_tick, with_next, with_place, with_row, with_shown, without_rows}
use Rattle.store.specs.declared.change.RowsBelow.{RowsBelow}
use Rattle.store.specs.declared.change.ShownValue.{ShownValue}
use Rattle.store.specs.Standing.{Content}
use Rattle.store.proofs.ReadLemmas.{kept-read}
use Rattle.desk_adopt.proofs.adopting.read_change.Goals as goal

first_tick : (last : Option ℤ) → with_last_tick last None ≡ last
first_tick None = refl
first_tick (Some moment) = refl

pub returns-clause-moved : goal.returns-clause-moved
unfolding with_change
returns-clause-moved g c = λ honest.
    let s0 = g.S.Store.standing c.args.store.now in
    let s1 = g.S.Store.standing c.last_tick.new.self in
    let s2 = g.S.Store.standing c.adopted_nexts.new.store in
    let s3 = g.S.Store.standing c.adopted_rows.new.store in
    let s4 = g.S.Store.standing c.adopted_places.new.store in
    let h4 = c.in_ok-imported.ensures.reads.goes.honest honest in
    let h3 = c.in_ok-places.ensures.reads.goes.honest h4 in
    let h2 = c.in_ok-rows.ensures.reads.goes.honest h3 in
    let h1 = c.in_ok-nexts.ensures.reads.goes.honest h2 in
    let e1 = kept-read s0 s1 c.in_ok-last_tick.ensures.reads h1 in
    let e2 = kept-read s1 s2 c.in_ok-nexts.ensures.reads h2 ∙ e1 in
    let e3 = kept-read s2 s3 c.in_ok-rows.ensures.reads h3 ∙ e2 in
    let e4 = kept-read s3 s4 c.in_ok-places.ensures.reads h4 ∙ e3 in
    let building = c.args.building.now in
    let panels = c.args.sections.now.panels.renamings.items in
    let points = c.args.sections.now.points.renamings.items in
    let calendars = c.args.sections.now.calendars.renamings.items in
    let rows = c.in_ok-rows.rows.items in
    let places = c.in_ok-places.places.items in
    let imported = c.in_ok-imported.imported.items in
    record {
      places = λ point p. subst (λ (content : Content). get (with_each with_place places no_places point) p
          ≡ at_items (λ (it : Point). it.name) building.points
          (λ name. kept_value building name p (get (former points content.tables.places empty name) p)) None point) e3
          (rw c.deref-3.ensures.value at c.in_ok-places.ensures.kept h4 point p);
      next = λ panel. subst (λ (content : Content). with_each with_next c.in_ok-nexts.nexts.items no_next panel
          ≡ at_items (λ (it : Panel). it.name) building.panels (former panels content.tables.next 1) 1 panel) e1
          (rw (c.panels.ensures, c.deref.ensures.value) at c.in_ok-nexts.ensures.kept h2 panel);
      row = λ panel number. ap (λ (list : List RowsBelow). with_each without_rows list (with_each with_row rows (λ _. no_rows)) panel number)
          c.new.ensures.items
          ∙ subst (λ (content : Content). with_each with_row rows (λ _. no_rows) panel number
          ≡ at_items (λ (it : Panel). it.name) building.panels
          (λ name. remembered_row (former panels content.tables.next 1 name) (former panels content.tables.row no_rows name) number)
          None panel) e2
          (rw (c.panels-2.ensures, c.deref-2.ensures.value) at c.in_ok-rows.ensures.kept h3 panel number);
      shown = λ schedule. ap (λ (list : List ShownValue). with_each with_shown list (λ _. None) schedule) c.new-2.ensures.items;
      imported = λ calendar text. subst (λ (content : Content). with_each with_imported imported (λ _. no_entries) calendar text
          ≡ at_items (λ (it : NamedCalendar). it.name) building.calendars
          (λ name. former calendars content.tables.imported no_entries name text) false calendar) e4
          (rw (c.calendars.ensures, c.deref-4.ensures.value) at c.in_ok-imported.ensures.kept honest calendar text);
      last_tick = first_tick c.in_ok-last_tick.last_tick ∙ c.in_ok-last_tick.ensures.value h1;
    }
