use Rattle.std.proofs.Common.{◌∙◌, sym, arith}
use Rattle.desk_record.proofs.FileLemmas.{EndsWith-put, Puts-done, Puts-failed, not-ok}
use Rattle.desk_record.proofs.disk_lines.DiskLinesLineFile.put_last.Goals as goal

pub returns-in_err-write_at : goal.returns-in_err-write_at
returns-in_err-write_at g c =
    let was = c.args.self.now in
    let others = rw c.deref.ensures.value at c.write_at.ensures.others in
    Puts-failed c.args.line.items (g.D.Disk.seen was.disk) (g.D.Disk.seen c.write_at.new.self) was.line.items
    (g.D.Disk.may_leave was.disk) (g.D.Disk.may_leave c.write_at.new.self) _ _ _ was.start c.in-Some.start
    c.write_at.ensures.clean c.if-self.false _ (not-ok _ c.from_residual.ensures.0) (was.ends c.if-self.false)
    (omega (arith, c.in-Some.ensures, c.len.ensures, was.line.ok.0)) others

pub returns-in_err-sync : goal.returns-in_err-sync
returns-in_err-sync g c =
    let was = c.args.self.now in
    let others = rw c.deref.ensures.value at c.write_at.ensures.others in
    Puts-failed c.args.line.items (g.D.Disk.seen was.disk) (g.D.Disk.seen c.sync.new.self) was.line.items
    (g.D.Disk.may_leave was.disk) (g.D.Disk.may_leave c.sync.new.self) _ _ _ was.start c.in-Some.start
    (λ now. c.write_at.ensures.clean (c.sync.ensures.clean now)) c.if-self.false _
    (not-ok _ c.from_residual-in_err-sync.ensures.0) (was.ends c.if-self.false)
    (omega (arith, c.in-Some.ensures, c.len.ensures, was.line.ok.0)) (rw c.sync.ensures.seen others)

pub invariant_of-self-2-clause-ends : goal.invariant_of-self-2-clause-ends
invariant_of-self-2-clause-ends g c = λ opened now.
    let was = c.args.self.now in
    let others = rw c.deref.ensures.value at c.write_at.ensures.others in
    let written = rw c.deref.ensures.value at c.in_ok-write_at.ensures.written in
    EndsWith-put (g.D.Disk.seen was.disk) (g.D.Disk.seen c.sync.new.self) was.line.items c.args.line.items was.start c.in-Some.start
    (was.ends c.if-self.false (c.write_at.ensures.clean (c.sync.ensures.clean now)))
    (omega (arith, c.in-Some.ensures, c.len.ensures, was.line.ok.0)) (rw c.sync.ensures.seen others)
    (rw c.sync.ensures.seen (written c.requires))

pub returns : goal.returns
returns g c =
    let was = c.args.self.now in
    let seen = c.sync.ensures.seen in
    let others = rw c.deref.ensures.value at c.write_at.ensures.others in
    let written = rw c.deref.ensures.value at c.in_ok-write_at.ensures.written in
    Puts-done c.args.line.items (g.D.Disk.seen was.disk) (g.D.Disk.seen c.sync.new.self) was.line.items
    (g.D.Disk.may_leave was.disk) (g.D.Disk.may_leave c.sync.new.self) _ _ _ was.start c.in-Some.start
    (λ now. c.write_at.ensures.clean (c.sync.ensures.clean now)) c.if-self.false (was.ends c.if-self.false)
    (omega (arith, c.in-Some.ensures, c.len.ensures, was.line.ok.0)) (rw seen others)
    (rw seen (written c.requires)) (λ bytes left. c.in_ok-sync.ensures.durable bytes left ∙ sym seen)
