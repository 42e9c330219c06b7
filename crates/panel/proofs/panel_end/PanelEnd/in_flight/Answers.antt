use Rattle.std.proofs.Common.{◌∙◌, ap, arith, length}
use Rattle.panel.proofs.UpheldLemmas.{is-upheld}
use Rattle.panel.proofs.WindowLemmas.{lies-within}
use Rattle.panel.proofs.panel_end.PanelEnd.in_flight.Goals as goal

pub returns-clause-upheld : goal.returns-clause-upheld
returns-clause-upheld c = λ run ran. is-upheld c.args.self.now.name run c.as_slice.result.now ran.from_1 (c.as_slice.ensures.value ∙
    ran.in_flight)

pub returns-clause-within : goal.returns-clause-within
returns-clause-within c = λ run ran.
    let s = c.args.self.now in
    let same = ap length ran.in_flight in
    lies-within s.name run ran.from_1 (let few = s.at_most_64 in let size = s.in_flight.ok.0 in omega (arith, few, size, same))
