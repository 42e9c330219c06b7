use Rattle.std.proofs.Common.{◌≡◌, ◌∙◌, None, false, ap, subst}
use Rattle.std.specs.FinMap.{get}
use Rattle.store.proofs.ReadLemmas.{kept-read}
use Rattle.store.specs.Change.{with_each, with_imported, with_next, with_place, with_row, with_shown}
use Rattle.store.specs.Standing.{Content}
use Rattle.store.specs.Tables.{no_tables}
use Rattle.store_copy.specs.Named.{at_names}
use Rattle.store_copy.specs.Remembered.{remembered_row}
use Rattle.store_copy.proofs.WholeLemmas.{whole}
use Rattle.store_copy.proofs.copying.whole_change.Goals as goal

pub returns-clause-whole : goal.returns-clause-whole
returns-clause-whole g c = λ honest.
    let s0 = g.S.Store.standing c.args.store.now in
    let s1 = g.S.Store.standing c.names.new.self in
    let s2 = g.S.Store.standing c.nexts_of.new.store in
    let s3 = g.S.Store.standing c.rows_of.new.store in
    let s4 = g.S.Store.standing c.places_of.new.store in
    let s5 = g.S.Store.standing c.shown_by.new.store in
    let s6 = g.S.Store.standing c.entries_of.new.store in
    let h6 = c.in_ok-last_tick.ensures.reads.goes.honest honest in
    let h5 = c.in_ok-imported.ensures.reads.goes.honest h6 in
    let h4 = c.in_ok-shown.ensures.reads.goes.honest h5 in
    let h3 = c.in_ok-places.ensures.reads.goes.honest h4 in
    let h2 = c.in_ok-rows.ensures.reads.goes.honest h3 in
    let h1 = c.in_ok-nexts.ensures.reads.goes.honest h2 in
    let e1 = kept-read s0 s1 c.in_ok-names.ensures.reads h1 in
    let e2 = kept-read s1 s2 c.in_ok-nexts.ensures.reads h2 ∙ e1 in
    let e3 = kept-read s2 s3 c.in_ok-rows.ensures.reads h3 ∙ e2 in
    let e4 = kept-read s3 s4 c.in_ok-places.ensures.reads h4 ∙ e3 in
    let e5 = kept-read s4 s5 c.in_ok-shown.ensures.reads h5 ∙ e4 in
    let e6 = kept-read s5 s6 c.in_ok-imported.ensures.reads h6 ∙ e5 in
    let names = c.in_ok-names.names in
    whole _ s0.content.tables names (c.in_ok-names.ensures.value h1) (record {
      places = λ q p. subst (λ (content : Content). get (with_each with_place c.in_ok-places.places.items no_tables.places q) p
          ≡ at_names names.points.items (λ point. get (content.tables.places point) p) None q) e3
          (rw c.deref-3.ensures.value at c.in_ok-places.ensures.named h4 q p);
      next = λ q. subst (λ (content : Content). with_each with_next c.in_ok-nexts.nexts.items no_tables.next q
          ≡ at_names names.panels.items content.tables.next 1 q) e1 (rw c.deref.ensures.value at c.in_ok-nexts.ensures.named h2 q);
      row = λ q n. subst (λ (content : Content). with_each with_row c.in_ok-rows.rows.items no_tables.row q n
          ≡ at_names names.panels.items (λ panel. remembered_row (content.tables.next panel) (content.tables.row panel) n) None q) e2
          (rw c.deref-2.ensures.value at c.in_ok-rows.ensures.named h3 q n);
      dropped = c.new.ensures.items;
      shown = λ q. subst (λ (content : Content). with_each with_shown c.in_ok-shown.shown.items no_tables.shown q
          ≡ at_names names.schedules.items content.tables.shown None q) e4 (rw c.deref-4.ensures.value at c.in_ok-shown.ensures.named h5 q);
      imported = λ q text. subst (λ (content : Content). with_each with_imported c.in_ok-imported.imported.items no_tables.imported q text
          ≡ at_names names.calendars.items (λ calendar. content.tables.imported calendar text) false q) e5
          (rw c.deref-5.ensures.value at c.in_ok-imported.ensures.named h6 q text);
      last_tick = c.in_ok-last_tick.ensures.value honest ∙ ap (λ (content : Content). content.tables.last_tick) e6;
    })
