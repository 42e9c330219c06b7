use Rattle.std.proofs.Common.{sym, ap}
use Rattle.store_memory.specs.Held.{row_of, slot_in}
use Rattle.store_memory.specs.Slots.{flatten}
use Rattle.store_memory.proofs.HeldLemmas.{IsRun-none}
use Rattle.store_memory.proofs.panels.Panels.run.Goals as goal

pub returns-in-None-clause-run : goal.returns-in-None-clause-run
returns-in-None-clause-run c = rw c.new.ensures.items (IsRun-none (row_of c.args.self.now c.args.panel.now) c.args.from c.args.upto
    (λ n. ap (λ o. flatten (slot_in o n)) (sym c.in-None.ensures)))
