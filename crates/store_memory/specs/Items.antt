-- The items of a change.
use Rattle.dates.specs.declared.entry.Entry.{Entry}
use Rattle.store.specs.declared.change.ImportedEntry.{ImportedEntry}
use Rattle.points.specs.Texts.{Text}

-- an entry of a calendar, to be imported
abbrev pub item_for : Text → Entry → ImportedEntry
item_for calendar entry = record { calendar = calendar; entry = entry }
