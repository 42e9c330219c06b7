use Rattle.std.proofs.Common.{◌∙◌, is_some, sym, ap, arith}
use Rattle.store_sql.proofs.NameLemmas.{value_gone, value_held}
use Rattle.store_sql.proofs.names.has_value.Goals as goal

pub returns-then-is_some : goal.returns-then-is_some
returns-then-is_some c = value_held c.args.array.now c.loop-priority.priority (ap is_some
    (sym c.value_at.ensures.value) ∙ sym c.is_some.ensures ∙ c.if-is_some.true)

pub returns : goal.returns
returns c =
    value_gone c.args.array.now (c.loop-priority.invariant.places (omega arith))
    (λ p least most. c.loop-priority.invariant.none p least (omega arith))
