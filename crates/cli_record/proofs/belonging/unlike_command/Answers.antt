use Rattle.std.proofs.Common.{◌≡◌, ◌<◌, ℕ, Some, None, arith, sym}
use Rattle.cli_record.specs.SentRuns.{first_unlike}
use Rattle.cli_record.proofs.ComparesLemmas.{compares-as}
use Rattle.cli_record.proofs.SentLemmas.{sent-alike, sent-alike-below, sent-unlike}
use Rattle.cli_record.proofs.belonging.unlike_command.Goals as goal

pub returns-in-None : goal.returns-in-None
returns-in-None g c =
    let none : first_unlike c.in_ok-runs.runs.held.items c.in_ok-runs.runs.recorded.items ≡ None =
    sym (rw (c.as_slice.ensures.value, c.as_slice-2.ensures.value) at c.in-None.ensures) in
    compares-as c.in_ok-runs.ensures (λ runs. sent-alike _ _ c.args.next _ _ runs none)

pub returns-then-number-end_number : goal.returns-then-number-end_number
returns-then-number-end_number g c =
    let is : first_unlike c.in_ok-runs.runs.held.items c.in_ok-runs.runs.recorded.items ≡ Some c.in-Some.number =
    sym (rw (c.as_slice.ensures.value, c.as_slice-2.ensures.value) at c.in-Some.ensures) in
    compares-as c.in_ok-runs.ensures (λ runs. sent-unlike _ _ c.args.next _ _ runs c.in-Some.number is
    (rw c.end_number.ensures at c.if-number-end_number.true))

pub returns : goal.returns
returns g c =
    let is : first_unlike c.in_ok-runs.runs.held.items c.in_ok-runs.runs.recorded.items ≡ Some c.in-Some.number =
    sym (rw (c.as_slice.ensures.value, c.as_slice-2.ensures.value) at c.in-Some.ensures) in
    compares-as c.in_ok-runs.ensures (λ runs. sent-alike-below _ _ c.args.next _ _ runs c.in-Some.number is
    (rw c.end_number.ensures at c.if-number-end_number.false))
