use Rattle.std.proofs.Common.{◌∙◌, ◌++◌, List, ap₂, subst}
use Rattle.std.specs.List.{All}
use Rattle.dates.specs.declared.entry.Entry.{Entry}
use Rattle.dates.specs.Entry.{IsEntry}
use Rattle.cli_days.proofs.CalendarLemmas.{holds-with}
use Rattle.cli_days.proofs.calendars.calendar_with.Goals as goal

pub returns-clause-holds : goal.returns-clause-holds
returns-clause-holds g c = λ honest imported tells day.
    let ranges : All IsEntry c.in_ok-imported.imported.items = subst (All IsEntry) c.as_slice.ensures.value c.lie_in_range.ensures in
    let entries = c.in_ok-joined.ensures
    ∙ ap₂ (λ (file kept : List Entry). file ++ kept) c.as_slice-2.ensures c.as_slice-3.ensures.value in
    holds-with (g.S.Store.standing c.args.store.now).content.tables.imported imported c.args.calendar.now c.in_ok-imported.imported.items
    c.in_ok-joined.field-0 (c.in_ok-imported.ensures.value honest) ranges tells entries day
