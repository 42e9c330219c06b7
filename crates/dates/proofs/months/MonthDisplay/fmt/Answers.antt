-- A month has at most two digits.
use Rattle.std.proofs.Common.{arith, refl}
use Rattle.std.proofs.Output.{has_written_of_eq}
use Rattle.dates.proofs.DigitLemmas.{styled_decimal-two}
use Rattle.dates.proofs.months.MonthDisplay.fmt.Goals as goal

pub returns-clause-writes : goal.returns-clause-writes
returns-clause-writes g c = λ plain ok.
    let two = styled_decimal-two c.number.result (omega arith) in
    has_written_of_eq _ _ _ _ _ (rw (c.laid_out.ensures, two, c.number.ensures.value) refl) (c.write.ensures.writes plain ok)
