use Rattle.std.proofs.Common.{◌∙◌, sym}
use Rattle.std.proofs.lemmas.Bool.{false≢true}
use Rattle.store_memory.proofs.RowSlotLemmas.{all-stay}
use Rattle.store_memory.proofs.row_slots.drop_below.Goals as goal

pub returns-clause-dropped : goal.returns-clause-dropped
returns-clause-dropped c = λ n.
    let left = c.loop-slots.slots.items in
    all-stay left c.args.number c.loop-slots.invariant.rising
    (λ some below. false≢true (sym c.loop-slots-test.false ∙ c.is_first_below.ensures.1 (some, below))) n
    ∙ c.loop-slots.invariant.same n
