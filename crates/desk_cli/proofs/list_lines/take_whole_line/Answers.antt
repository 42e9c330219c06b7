use Rattle.std.proofs.Common.{◌≡◌, ◌∙◌, ℕ, ◌+◌, List, ◌∷◌, sym, ap, subst, take, drop, rules}
use Rattle.std.specs.Io.Buffered.{reader_buffer}
use Rattle.memchr.specs.Find.{IsFirstByte, is_byte}
use Rattle.desk_cli.specs.Replay.{lines_of}
use Rattle.desk_cli.proofs.CutLemmas.{known_front, left_behind, takes_whole, within_front}
use Rattle.desk_cli.proofs.list_lines.take_whole_line.Goals as goal

pub returns-clause-taken : goal.returns-clause-taken
returns-clause-taken g c = λ bytes _ known.
    let front : List ℕ = reader_buffer c.args.reader.now in
    let end : ℕ = c.in-Some.end in
    let first : IsFirstByte (is_byte 10) front c.memchr.result =
    subst (λ b. IsFirstByte (is_byte 10) b c.memchr.result) c.buffer.ensures c.memchr.ensures in
    let line_is : c.extend_from_slice.new.self.items ≡ take end front = search rules in (
      drop (end + 1) bytes,
      left_behind _ _ front bytes (end + 1) known c.consume.ensures.bytes (within_front front end c.memchr.result first c.in-Some.is),
      takes_whole front _ bytes end c.memchr.result (known_front _ front _ bytes known) first c.in-Some.is
          ∙ ap (λ l. l ∷ lines_of (drop (end + 1) bytes)) (sym line_is),
    )
