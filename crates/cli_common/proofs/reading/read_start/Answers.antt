use Rattle.std.proofs.Common.{◌≡◌, Some}
use Rattle.cli_common.proofs.ReadingLemmas.{taken_bytes}
use Rattle.cli_common.proofs.reading.read_start.Goals as goal

pub returns-in-Ok-read_to_end : goal.returns-in-Ok-read_to_end
returns-in-Ok-read_to_end g c = λ bytes known.
    let known_is : g.B.Read.remaining c.in-Ok.reader ≡ Some bytes = rw c.in-Ok.is at known in
    taken_bytes g.B.Read.remaining c.take-start.result.limit c.take-start.result.inner c.in-Ok.reader bytes c.new-bytes.result.items
    c.read_to_end.new.buf.items
    c.take-start.ensures.limit (rw c.in-Ok.is at c.take-start.ensures.inner) c.new-bytes.ensures.items known_is c.in-Ok-read_to_end.ensures.bytes
