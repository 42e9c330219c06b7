use Rattle.std.proofs.Common.{◌≡◌, ◌-◌, length, sym, subst, arith}
use Rattle.sqlite_disk.specs.Disk.{Holds}
use Rattle.desk_record.specs.Resuming.{IsEndOf}
use Rattle.desk_record.proofs.ResumeLemmas.{end-of, kept-whole}
use Rattle.desk_record.proofs.resuming.read_end.Goals as goal

pub returns-in-Ok-read_at-clause-end : goal.returns-in-Ok-read_at-clause-end
returns-in-Ok-read_at-clause-end g c = λ now.
    let file = g.D.Disk.seen c.args.disk.now in
    let from = c.saturating_sub-from.result in
    let buf = c.read_at.new.buf in
    let len = c.in-Ok.len in
    let sized : length buf ≡ len - from =
    omega (arith, c.read_at.auto.buf, c.deref_mut.ensures.len, c.in-Ok-resize.ensures.len) in
    let whole = kept-whole buf c.resize.new.self.items c.resize.new.self.len
    (omega (arith, c.read_at.auto.buf, c.deref_mut.ensures.len)) in
    subst (IsEndOf file from) (sym whole)
    (end-of file buf from len (c.in-Ok.ensures.len (c.in-Ok-read_at.ensures.clean now)) (omega (arith, c.saturating_sub-from.ensures)) sized
    (λ some. subst (λ bytes. Holds bytes from buf) c.in-Ok.ensures.seen
    (c.in-Ok-read_at.ensures.read now (omega (arith, some, c.read_at.auto.buf)))))
