use Rattle.std.proofs.Common.{sym, arith}
use Rattle.building_hints.proofs.EntryDayLemmas.{in_one_year}
use Rattle.building_hints.proofs.entry_days.holds_in_a_leap_year.Goals as goal

pub returns-then-holds_in_months : goal.returns-then-holds_in_months
returns-then-holds_in_months c = λ _. in_one_year _ _ (omega arith) (omega arith) (sym c.if-holds_in_months.ensures)
