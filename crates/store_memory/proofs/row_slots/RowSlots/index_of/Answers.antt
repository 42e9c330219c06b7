use Rattle.std.proofs.Common.{◌∙◌, sym}
use Rattle.std.proofs.lemmas.Bool.{false≢true}
use Rattle.store_memory.proofs.RowSlotLemmas.{absent, absent_past}
use Rattle.store_memory.proofs.row_slots.RowSlots.index_of.Goals as goal

pub returns-then-is_past_all : goal.returns-then-is_past_all
returns-then-is_past_all c = absent_past c.args.self.now c.args.number (c.is_past_all.ensures.0 c.if-is_past_all.true)

pub returns-else-is_at-2 : goal.returns-else-is_at-2
returns-else-is_at-2 c = absent c.args.self.now c.args.number c.count_below-index.result c.count_below-index.ensures
    (λ at. false≢true (sym c.if-is_at-2.false ∙ c.is_at-2.ensures.1 at))
