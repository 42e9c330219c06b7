-- Each part of a time has at most two digits.
use Rattle.std.proofs.Common.{◌/◌, ◌%◌, refl, arith}
use Rattle.std.proofs.Output.{has_written_of_eq}
use Rattle.dates.proofs.DigitLemmas.{styled_decimal-two}
use Rattle.sched.proofs.time.TimeDisplay.fmt.Goals as goal

pub returns-clause-writes : goal.returns-clause-writes
returns-clause-writes g c = λ plain ok.
    let within = c.hundredths-hundredths.ensures.within in
    let hour = styled_decimal-two (c.hundredths-hundredths.result / 360_000) (omega (arith, within)) in
    let minute = styled_decimal-two (c.hundredths-hundredths.result / 6_000 % 60) (omega arith) in
    let second = styled_decimal-two (c.hundredths-hundredths.result / 100 % 60) (omega arith) in
    let rest = styled_decimal-two (c.hundredths-hundredths.result % 100) (omega arith) in
    let number = c.hundredths-hundredths.ensures.value in
    has_written_of_eq _ _ _ _ _
    (rw (c.laid_out.ensures, c.laid_out-2.ensures, c.laid_out-3.ensures, c.laid_out-4.ensures, hour, minute, second, rest, number) refl)
    (c.write.ensures.writes plain ok)
