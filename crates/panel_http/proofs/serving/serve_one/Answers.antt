use Rattle.std.proofs.Common.{◌<◌, inl, inr, [], length, refl, rules}
use Rattle.panel_http.proofs.GatheringLemmas.{asks-all, serves-all, some-byte}
use Rattle.panel_http.proofs.ServingLemmas.{serves-no-memory}
use Rattle.panel_http.proofs.serving.serve_one.Goals as goal
use Rattle.panel_http.proofs.serving.serve_one.Goals.{else-is_empty-via-then-is_empty+else-not-gives_more, else-is_empty-via-else-is_empty}

pub returns-in-Asks-clause-serves : goal.returns-in-Asks-clause-serves
returns-in-Asks-clause-serves g c = λ bytes earlier known honest holds.
    let takes = rw c.new-come.ensures.items at c.in-Asks.ensures.taken in
    let whole = rw c.building.ensures at (c.in-Asks.ensures.asks c.in-Asks.request refl) in
    let asked = asks-all bytes _ _ _ known takes _ c.in-Asks.request whole.0 whole.1 in
    c.serve_request.ensures.serves bytes earlier _ _ asked.0 asked.1 honest holds

pub returns-in-Ended-clause-serves : goal.returns-in-Ended-clause-serves
returns-in-Ended-clause-serves g c = λ bytes earlier known honest holds.
    let takes = rw c.new-come.ensures.items at c.in-Ended.ensures.taken in
    let served = c.serve_come.ensures.serves [] earlier (inr refl) honest holds in
    serves-all bytes _ _ _ known takes _ _ earlier _ _ _ _ _ _ _ _ _ _ c.deref.ensures.value (c.in-Ended.ensures.ended refl) served

pub returns-clause-serves : goal.returns-clause-serves
returns-clause-serves g c = λ bytes earlier known honest holds.
    let takes = rw c.new-come.ensures.items at c.gather_whole.ensures.taken in
    let some : 0 < length bytes = elim c.else-is_empty.branch [
      | else-is_empty-via-then-is_empty+else-not-gives_more w ↦ some-byte bytes _ _ _ known takes (inr (w.gives_more.ensures.some (search rules)))
      | else-is_empty-via-else-is_empty w ↦ some-byte bytes _ _ _ known takes (inl (search rules))
    ] in
    serves-no-memory _ earlier bytes _ _ _ _ _ _ _ _ _ _ some holds c.write_answer.ensures
