use Rattle.std.proofs.Common.{sym, arith}
use Rattle.building_hints.proofs.SomeBetweenLemmas.{none_at_first, none_in_all, some-fails, some-passes}
use Rattle.building_hints.proofs.entry_days.holds_in_days.Goals as goal

pub loop-day-init : goal.loop-day-init
loop-day-init c = (omega arith, none_at_first _ _)

pub returns-then-holds_at : goal.returns-then-holds_at
returns-then-holds_at c =
    sym (some-passes _ _ _ c.loop-day.day c.loop-day.invariant.0 (omega arith) (sym c.if-holds_at.ensures))

pub loop-day-preserved : goal.loop-day-preserved
loop-day-preserved c =
    (omega (arith, c.loop-day.invariant.0), some-fails _ _ _ c.loop-day.invariant.1 (sym c.if-holds_at.ensures))

pub returns : goal.returns
returns c = sym (none_in_all _ _ _ _ c.loop-day-test.false c.loop-day.auto.day-end c.loop-day.invariant.1)
