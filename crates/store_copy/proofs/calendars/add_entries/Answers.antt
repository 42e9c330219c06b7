use Rattle.std.proofs.Common.{◌∙◌, List, ap}
use Rattle.store.specs.Change.{with_each, with_imported}
use Rattle.store.specs.declared.change.ImportedEntry.{ImportedEntry}
use Rattle.store.specs.Tables.{no_tables}
use Rattle.store_copy.proofs.EntryLemmas.{put-calendar}
use Rattle.store_copy.proofs.calendars.add_entries.Goals as goal

pub returns-clause-added : goal.returns-clause-added
returns-clause-added g c = λ honest q text.
    ap (λ (list : List ImportedEntry). with_each with_imported list no_tables.imported q text)
    (rw c.as_slice.ensures.value at c.in_ok-add_list.ensures)
    ∙ put-calendar (g.S.Store.standing c.args.store.now).content.tables.imported c.args.calendar.now c.in_ok-entries.entries.items
    c.args.items.now.items q text (c.in_ok-entries.ensures.value honest)
