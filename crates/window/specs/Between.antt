-- The same as one walk over the contents that are applied.
use Rattle.std.specs.Prelude.{ℕ, ◌+◌, nat_lt, if◌then◌else◌, List, [], ◌∷◌, ◌++◌}
use Rattle.window.specs.declared.numbered_content.NumberedContent.{NumberedContent}
use Rattle.window.specs.Taken.{Ask, Command, Skip}

-- a skip, where numbers are missing
abbrev pub skip_to : ℕ → ℕ → List Ask
skip_to next upto = if nat_lt next upto then Skip upto ∷ [] else []

-- the commands by rising number, with a skip over each run of missing numbers from `next` up to `end`
abbrev pub asks_between : ℕ → List NumberedContent → ℕ → List Ask
asks_between next [] end = skip_to next end
asks_between next (entry ∷ entries) end =
    (skip_to next entry.number ++ Command entry.number entry.content ∷ []) ++ asks_between (entry.number + 1) entries end
