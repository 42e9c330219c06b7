use Rattle.std.proofs.Common.{◌≡◌, ◌∙◌, length, sym, arith}
use Rattle.std.proofs.lemmas.Bool.Decides.{nat_tests}
use Rattle.panel.proofs.EntryLemmas.{none-left}
use Rattle.panel.proofs.UpheldLemmas.{all-is-done}
use Rattle.panel.proofs.panel_end.PanelEnd.is_at_rest.Goals as goal

pub returns-then-is_empty-clause-all_is_done : goal.returns-then-is_empty-clause-all_is_done
returns-then-is_empty-clause-all_is_done c = λ run ran rest.
    let entries = c.args.self.now.in_flight in
    let none : length entries.items ≡ 0 = grind (arith, nat_tests, entries.ok.0) in
    all-is-done c.args.self.now.name run ran.from_1 (sym ran.in_flight ∙ none-left entries.items none)
