-- What is gone from `rest` was appended, and no write has failed yet.
use Rattle.std.proofs.Common.{◌≡◌, ℕ, List, ◌++◌, length}
use Rattle.std.specs.Io.KnownBytes.{Appends}
use Rattle.panel_http.proofs.text_writing.write_text.Given as goal

abbrev pub invariant-loop-rest : goal.invariant-loop-rest
invariant-loop-rest g l =
    ((done : List ℕ) × (l.initial.text ≡ done ++ l.rest)
    × Appends (g.W.Write.contents l.initial.writer.inner) (g.W.Write.contents l.writer.inner) done)
    × (l.writer.failures ≡ l.initial.writer.failures)

abbrev pub decreases-loop-rest : goal.decreases-loop-rest
decreases-loop-rest g l = length l.rest
