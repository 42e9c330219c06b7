use Rattle.std.proofs.Common.{◌∙◌, is_some, sym, ap}
use Rattle.deliveries.specs.Delivered.{Holds}
use Rattle.deliveries.specs.Events.{machine}
use Rattle.desk_clock.proofs.ClockedLemmas.{Tells-held}
use Rattle.store_memory.specs.Memory.{standing_of}
use Rattle.store.specs.Standing.{Content}
use Rattle.desk_why.specs.AuthorsTable.{held_in}
use Rattle.desk_why.proofs.SettleLemmas.{held-refused, imported-along}
use Rattle.desk_why.proofs.steps.settle_import.Goals as goal

pub returns-then-is_some-clause-along : goal.returns-then-is_some-clause-along
returns-then-is_some-clause-along c = λ E held point priority.
    held-refused c.args.building.now E c.args.rows.now point priority (held_in c.args.authors.now point priority)
    (ap is_some (sym c.refused_record.ensures) ∙ (sym c.is_some.ensures ∙ c.if-is_some.true))

pub returns-clause-along : goal.returns-clause-along
returns-clause-along c = λ E held.
    let b = c.args.building.now in
    let read = standing_of c.added_items.new.store in
    let first : Holds b E (standing_of c.last_tick.new.self) = c.in_ok-last.ensures.reads.kept tt (λ e. cc) ∙ held in
    let second : Holds b E read = c.in_ok-items.ensures.reads.kept tt (λ e. cc) ∙ first in
    let items = c.in_ok-items.ensures.added tt (machine b E).imported (Tells-held b E (standing_of c.last_tick.new.self) first) in
    imported-along b E read second c.args.rows.now c.as_slice.result.now c.in_ok-last.last c.args.authors.now c.settle_at_last.new.authors
    (c.as_slice.ensures.value ∙ items)
    (c.in_ok-last.ensures.value tt ∙ ap (λ (content : Content). content.tables.last_tick) (held ∙ sym second))
    (ap is_some (sym c.refused_record.ensures) ∙ (sym c.is_some.ensures ∙ c.if-is_some.false))
    (c.in_ok-settle_at_last.ensures.settled (machine b E).imported (Tells-held b E read second))
