use Rattle.std.proofs.Common.{◌/◌, ◌%◌, arith}
use Rattle.dates.proofs.DigitLemmas.{styled_decimal-two}
use Rattle.desk_overrides.proofs.lines.hours_text.Goals as goal

-- the minutes have at most two digits
pub returns : goal.returns
returns c =
    let minutes = styled_decimal-two (c.args.hundredths / 6_000 % 60) (omega arith) in
    rw minutes at (rw c.laid_out.ensures at c.format.ensures.ok)
