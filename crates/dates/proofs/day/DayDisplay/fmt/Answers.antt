-- A year has four digits, a month and a day of the month at most two.
use Rattle.std.proofs.Common.{◌≡◌, unsigned_abs, refl, ap, arith}
use Rattle.std.proofs.Output.{has_written_of_eq}
use Rattle.dates.proofs.DigitLemmas.{decimal-four, styled_decimal-two}
use Rattle.dates.proofs.day.DayDisplay.fmt.Goals as goal

pub returns-clause-writes : goal.returns-clause-writes
returns-clause-writes g c = λ plain ok.
    let year : c.year.result ≡ unsigned_abs c.args.self.now.year = ap unsigned_abs c.year.ensures.value in
    let four = decimal-four c.year.result (omega arith) (omega arith) in
    let month = styled_decimal-two c.month.result (omega arith) in
    let day = styled_decimal-two c.day_of_month.result (omega arith) in
    has_written_of_eq _ _ _ _ _
    (rw (c.laid_out.ensures, c.laid_out-2.ensures, four, month, day, year, c.month.ensures.value, c.day_of_month.ensures.value) refl)
    (c.write.ensures.writes plain ok)
