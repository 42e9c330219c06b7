use Rattle.std.proofs.Common.{sym, arith}
use Rattle.building_hints.proofs.SomeBetweenLemmas.{none_at_first, none_in_all, some-fails, some-passes}
use Rattle.building_hints.proofs.entry_days.holds_in_months.Goals as goal

pub loop-month-init : goal.loop-month-init
loop-month-init c = (omega arith, none_at_first _ _)

pub returns-then-holds_in_days : goal.returns-then-holds_in_days
returns-then-holds_in_days c =
    sym (some-passes _ _ _ c.loop-month.month c.loop-month.invariant.0 (omega arith) (sym c.if-holds_in_days.ensures))

pub loop-month-preserved : goal.loop-month-preserved
loop-month-preserved c =
    (omega (arith, c.loop-month.invariant.0), some-fails _ _ _ c.loop-month.invariant.1 (sym c.if-holds_in_days.ensures))

pub returns : goal.returns
returns c = sym (none_in_all _ _ _ _ c.loop-month-test.false c.loop-month.auto.month-end c.loop-month.invariant.1)
