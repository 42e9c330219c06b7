-- No end that begins so far in the text makes the start a head.
use Rattle.std.proofs.Common.{◌≡◌, ◌<◌, ◌++◌, ℕ, List, [], length}
use Rattle.httparse.specs.Grammar.{RequestHead}
use Rattle.panel_http.specs.Heads.{IsHead}
use Rattle.panel_http.proofs.beginning.an_end_completes.Given as goal

abbrev pub invariant-loop-at : goal.invariant-loop-at
invariant-loop-at l = (front ending : List ℕ) (head : RequestHead) → l.text ≡ front ++ ending → length front < l.at
    → IsHead (l.start ++ ending) head [] → ⊥
