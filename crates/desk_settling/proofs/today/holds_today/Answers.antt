use Rattle.std.proofs.Common.{◌≡◌, ◌||◌, ◌∙◌, ap, subst, rules}
use Rattle.std.specs.List.{All, list_any}
use Rattle.dates.specs.declared.entry.Entry.{Entry}
use Rattle.dates.specs.Entry.{IsEntry, holds_on}
use Rattle.desk_settling.proofs.HoldLemmas.{holds-parts}
use Rattle.desk_settling.proofs.today.holds_today.Goals as goal

pub returns-clause-holds : goal.returns-clause-holds
returns-clause-holds g c = λ honest imported tells.
    let table = (g.S.Store.standing c.args.store.now).content.tables.imported in
    let kept = c.in_ok-kept.kept.items in
    let ranges : All IsEntry kept = subst (All IsEntry) c.as_slice.ensures.value c.lie_in_range.ensures in
    let parts = holds-parts table imported c.args.calendar.now kept c.args.items.now c.args.day
    (c.in_ok-kept.ensures.value honest) ranges c.have_ranges.ensures tells in
    let one_of = c.holds-by_file.result || (c.any_holds-by_store.result || c.any_item_holds-by_items.result) in
    let either : c.if-by_store.result ≡ one_of = search rules in
    let by_store = c.any_holds-by_store.ensures ∙ ap (list_any (λ (entry : Entry). holds_on entry c.args.day)) c.as_slice-2.ensures.value in
    either ∙ ((λ i. c.holds-by_file.ensures i || (by_store i || c.any_item_holds-by_items.ensures i)) ∙ parts)
