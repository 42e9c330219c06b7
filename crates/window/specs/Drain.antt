-- How a run is drained, for the private functions: no public clause speaks of it.
use Rattle.std.specs.Prelude.{ℕ, ◌+◌, ◌==◌, if◌then◌else◌, List, [], ◌∷◌, map}
use Rattle.points.specs.declared.numbered_row.NumberedRow.{NumberedRow}
use Rattle.window.specs.declared.numbered_content.NumberedContent.{NumberedContent}

abbrev pub content_of : NumberedRow → NumberedContent
content_of entry = record { number = entry.number; content = entry.row.content }

-- the contents of a run's rows, with their numbers
abbrev pub contents_of : List NumberedRow → List NumberedContent
contents_of run = map content_of run

-- the number after a row, where the row is the next one; else the next one stays
abbrev pub next_after : ℕ → NumberedRow → ℕ
next_after next entry = if entry.number == next then next + 1 else next

-- the first number, from `next` on, that a run with rising numbers lacks
abbrev pub end_of : ℕ → List NumberedRow → ℕ
end_of next [] = next
end_of next (entry ∷ run) = end_of (next_after next entry) run
