use Rattle.std.proofs.Common.{◌∙◌, ◌++◌, ◌&&◌, ◌||◌, Bool, List, Option, ap, map}
use Rattle.std.specs.Str.{bytes_eq}
use Rattle.dates.specs.declared.entry.Entry.{Entry}
use Rattle.dates.specs.Entry.{spelling}
use Rattle.desk_adopt.specs.Adopted.{no_entries}
use Rattle.desk_adopt.specs.Renamed.{at_name}
use Rattle.desk_adopt.proofs.ItemLemmas.{with_each-append}
use Rattle.store_memory.specs.Items.{item_for}
use Rattle.store_memory.proofs.EntryLemmas.{imported-each, texts-any}
use Rattle.store.specs.Change.{with_each, with_imported}
use Rattle.store.specs.declared.change.ImportedEntry.{ImportedEntry}
use Rattle.points.specs.Texts.{Text}
use Rattle.desk_adopt.proofs.calendars.adopt_entries.Goals as goal

pub returns-in_ok-keep_entries-in-Some-clause-kept : goal.returns-in_ok-keep_entries-in-Some-clause-kept
returns-in_ok-keep_entries-in-Some-clause-kept g c = λ honest q text.
    let first = g.S.Store.standing c.args.store.now in
    let imported = first.content.tables.imported in
    let calendar = c.args.calendar.now in
    let entries = c.in_ok-entries-in-Some.entries.items in
    let old = c.args.items.now.items in
    let table = with_each with_imported old (λ _. no_entries) in
    ap (λ (list : List ImportedEntry). with_each with_imported list (λ _. no_entries) q text)
    (c.in_ok-keep_entries-in-Some.ensures ∙ ap (λ (list : List Entry). old ++ map (item_for calendar) list) c.as_slice.ensures.value)
    ∙ ap (λ (f : Text → Text → Bool). f q text) (with_each-append with_imported old (map (item_for calendar) entries) (λ _. no_entries))
    ∙ imported-each calendar entries table q text
    ∙ ap (λ b. (bytes_eq calendar q && b) || table q text)
    (texts-any (imported c.in-Some.former) (map spelling entries) (c.in_ok-entries-in-Some.ensures.value honest) text
    ∙ ap (λ (o : Option Text). at_name imported no_entries o text) c.in-Some.ensures)
