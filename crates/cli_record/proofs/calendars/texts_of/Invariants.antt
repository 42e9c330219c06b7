use Rattle.std.proofs.Common.{◌≡◌, map, take, string_bytes}
use Rattle.dates.specs.Entry.{spelling}
use Rattle.cli_record.proofs.calendars.texts_of.Given as goal

-- the texts so far
abbrev pub invariant-loop-entry : goal.invariant-loop-entry
invariant-loop-entry l = map string_bytes l.texts.items ≡ map spelling (take l.entry-index l.entries)
