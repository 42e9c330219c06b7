use Rattle.std.proofs.Common.{sym, arith}
use Rattle.building_hints.proofs.SomeBetweenLemmas.{none_at_first, none_in_all, some-fails, some-passes}
use Rattle.building_hints.proofs.entry_days.holds_in_years.Goals as goal

pub loop-year-init : goal.loop-year-init
loop-year-init c = (omega arith, none_at_first _ _)

pub returns-then-holds_in_months : goal.returns-then-holds_in_months
returns-then-holds_in_months c =
    sym (some-passes _ _ _ c.loop-year.year c.loop-year.invariant.0 (omega arith) (sym c.if-holds_in_months.ensures))

pub loop-year-preserved : goal.loop-year-preserved
loop-year-preserved c =
    (omega (arith, c.loop-year.invariant.0), some-fails _ _ _ c.loop-year.invariant.1 (sym c.if-holds_in_months.ensures))

pub returns : goal.returns
returns c = sym (none_in_all _ _ _ _ c.loop-year-test.false c.loop-year.auto.year-end c.loop-year.invariant.1)
