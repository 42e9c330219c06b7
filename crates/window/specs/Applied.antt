-- Which commands act, parked ones included, once a command or a skip has moved the front.
use Rattle.std.specs.Prelude.{ℕ, zero, suc, ◌+◌, ◌-◌, List, [], ◌∷◌, Option, Some, None}
use Rattle.points.specs.declared.content.Content.{Content}
use Rattle.window.specs.declared.numbered_content.NumberedContent.{NumberedContent}
use Rattle.window.specs.Taken.{Taken, content_at, front}

-- a content under its number, before others
abbrev pub and_at : ℕ → Option Content → List NumberedContent → List NumberedContent
and_at number None rest = rest
and_at number (Some content) rest = record { number = number; content = content } ∷ rest

-- the contents that were accepted under `count` numbers from `number` on, in rising order
abbrev pub contents_from : ℕ → Taken → ℕ → List NumberedContent
contents_from zero taken number = []
contents_from (suc count) taken number = and_at number (content_at taken number) (contents_from count taken (number + 1))

-- the commands that are acted on as what was accepted grows: those that the front passes
unfoldable pub applied : Taken → Taken → List NumberedContent
applied old new = contents_from (front new - front old) new (front old)
