-- A year has four digits.
use Rattle.std.proofs.Common.{arith}
use Rattle.std.proofs.Output.{has_written_of_eq}
use Rattle.dates.proofs.DigitLemmas.{decimal-four}
use Rattle.dates.proofs.year.YearDisplay.fmt.Goals as goal

pub returns-clause-writes : goal.returns-clause-writes
returns-clause-writes g c = λ plain ok.
    let number = c.number.ensures.value in
    let four = rw number at (decimal-four c.number.result (omega arith) (omega arith)) in
    has_written_of_eq _ _ _ _ _ (rw number four) (c.write.ensures.writes plain ok)
