use Rattle.std.proofs.Common.{◌∙◌, ◌++◌, List, ap, arith, cond, filter, map, subst}
use Rattle.std.specs.Str.{bytes_eq}
use Rattle.store_copy.specs.Remembered.{is_remembered, remembered_row}
use Rattle.store_copy.specs.Named.{or_else, row_for}
use Rattle.store_copy.proofs.NameLemmas.{with_each-append}
use Rattle.store_copy.proofs.RowLemmas.{rows-put}
use Rattle.points.specs.declared.numbered_row.NumberedRow.{NumberedRow}
use Rattle.points.specs.Run.{IsRun, Rows}
use Rattle.store.specs.Change.{with_each, with_row}
use Rattle.store.specs.declared.change.KeptRow.{KeptRow}
use Rattle.store.specs.Standing.{Content}
use Rattle.points.specs.Texts.{Text}
use Rattle.store.proofs.ReadLemmas.{kept-read}
use Rattle.store_copy.proofs.panels.put_rows.Goals as goal

pub returns-clause-added : goal.returns-clause-added
returns-clause-added g c = λ honest table q n.
    let first = g.S.Store.standing c.args.store.now in
    let second = g.S.Store.standing c.panel_next.new.self in
    let before = c.in_ok-run.ensures.reads.goes.honest honest in
    let same = kept-read first second c.in_ok-next.ensures.reads before in
    let panel = c.args.panel.now in
    let former = c.args.former.now in
    let rows = first.content.tables.row former in
    let next = c.in_ok-next.next in
    let run = c.in_ok-run.run'.items in
    let is = subst (λ (content : Content). IsRun (content.tables.row former) c.min-from.result c.past_remembered-upto.result run) same
    (c.in_ok-run.ensures.value honest) in
    let old = c.args.rows.now.items in
    let had = with_each with_row old table in
    let chosen = λ (list : List NumberedRow). map (row_for panel) (filter (λ it. is_remembered next it.number) list) in
    let put = c.in_ok-add_run.ensures ∙ ap (λ (list : List NumberedRow). old ++ chosen list) (c.as_slice.ensures.value ∙ is.is_between) in
    ap (λ (list : List KeptRow). with_each with_row list table q n) put
    ∙ ap (λ (f : Text → Rows). f q n) (with_each-append with_row old (chosen _) table)
    ∙ rows-put panel next c.min-from.result is.end rows had (λ number remembered.
    let below = c.past_remembered-upto.ensures number remembered in
    let above = c.first_remembered.ensures number remembered in
    (omega (arith, c.min-from.ensures, above), omega (arith, below, is.reaches))) q n
    ∙ ap (λ m. cond (bytes_eq panel q) (or_else (remembered_row m rows n) (had q n)) (had q n)) (c.in_ok-next.ensures.value before)
