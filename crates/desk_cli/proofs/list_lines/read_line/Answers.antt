use Rattle.std.proofs.Common.{◌≡◌, ◌∙◌, ℕ, ◌++◌, List, subst, arith}
use Rattle.std.specs.Prelude.{IfSome}
use Rattle.std.specs.Io.Buffered.{reader_remaining}
use Rattle.std.specs.Io.BufRead.{take_through}
use Rattle.desk_cli.proofs.LineLemmas.{takes_line, takes_none}
use Rattle.desk_cli.proofs.list_lines.read_line.Goals as goal

pub returns-in-Ok-eq0 : goal.returns-in-Ok-eq0
returns-in-Ok-eq0 g c = λ bytes left.
    takes_none _ (reader_remaining g.D.Read.remaining c.read_until.new.self) bytes c.read_until.new.buf.items
    (c.in_ok-take_whole_line.ensures.same c.if-branch.false ∙ left)
    (c.in-Ok-eq0.ensures.end c.in-Ok-eq0.field-0-test)

pub returns-in-Ok : goal.returns-in-Ok
returns-in-Ok g c = λ bytes left.
    let line : List ℕ = c.read_until.new.buf.items in
    takes_line _ _ bytes line _ (c.in_ok-take_whole_line.ensures.same c.if-branch.false ∙ left)
    (subst (λ (start : List ℕ). IfSome (reader_remaining g.D.Read.remaining c.take_whole_line.new.reader)
    (λ xs. line ≡ start ++ take_through 10 xs)) (c.in_ok-take_whole_line.ensures.none c.if-branch.false) c.in-Ok.ensures.bytes)
    c.in-Ok.ensures.rest
    (let fewer = c.read_until.new.buf.ok.0 in let test = c.in-Ok.field-0-test.1 in omega (arith, c.in-Ok.ensures.ok))
    c.drop_end.ensures
