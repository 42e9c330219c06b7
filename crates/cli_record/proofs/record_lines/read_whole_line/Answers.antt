use Rattle.std.proofs.Common.{◌≡◌, ◌++◌, List, ℕ, IfSome, subst}
use Rattle.std.specs.Io.Buffered.{reader_remaining}
use Rattle.std.specs.Io.BufRead.{take_through}
use Rattle.cli_record.proofs.WholeLemmas.{takes-whole}
use Rattle.cli_record.proofs.record_lines.read_whole_line.Goals as goal

pub returns-in-Ok : goal.returns-in-Ok
returns-in-Ok g c = λ bytes left.
    let read : List ℕ = c.read_until.new.buf.items in
    takes-whole (reader_remaining g.D.Read.remaining c.args.reader.now) (reader_remaining g.D.Read.remaining c.read_until.new.self)
    bytes read c.cut_end.new.line.items c.cut_end.result left
    (subst (λ (start : List ℕ). IfSome (reader_remaining g.D.Read.remaining c.args.reader.now) (λ xs. read ≡ start ++ take_through 10 xs))
    c.clear.ensures.items c.in-Ok.ensures.bytes)
    c.in-Ok.ensures.rest c.cut_end.ensures
