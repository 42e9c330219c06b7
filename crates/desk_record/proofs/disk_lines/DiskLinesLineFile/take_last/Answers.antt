use Rattle.std.proofs.Common.{sym, subst, ◌∙◌}
use Rattle.sqlite_disk.specs.Disk.{Cut}
use Rattle.desk_record.proofs.FileLemmas.{Takes-done, Takes-failed, not-ok}
use Rattle.desk_record.proofs.disk_lines.DiskLinesLineFile.take_last.Goals as goal

pub returns-in_err-set_len : goal.returns-in_err-set_len
returns-in_err-set_len g c =
    let was = c.args.self.now in
    Takes-failed (g.D.Disk.seen was.disk) (g.D.Disk.seen c.set_len.new.self) was.line.items
    (g.D.Disk.may_leave was.disk) (g.D.Disk.may_leave c.set_len.new.self) _ _ _ was.start
    c.set_len.ensures.clean c.if-self.false _ (not-ok _ c.from_residual.ensures.0) (was.ends c.if-self.false)
    c.set_len.ensures.others

pub returns-in_err-sync : goal.returns-in_err-sync
returns-in_err-sync g c =
    let was = c.args.self.now in
    Takes-failed (g.D.Disk.seen was.disk) (g.D.Disk.seen c.sync.new.self) was.line.items
    (g.D.Disk.may_leave was.disk) (g.D.Disk.may_leave c.sync.new.self) _ _ _ was.start
    (λ now. c.set_len.ensures.clean (c.sync.ensures.clean now)) c.if-self.false _
    (not-ok _ c.from_residual-in_err-sync.ensures.0) (was.ends c.if-self.false)
    (subst (Cut was.start (g.D.Disk.seen was.disk)) (sym c.sync.ensures.seen) c.set_len.ensures.others)

pub returns : goal.returns
returns g c =
    let was = c.args.self.now in
    let seen = c.sync.ensures.seen in
    Takes-done (g.D.Disk.seen was.disk) (g.D.Disk.seen c.sync.new.self) was.line.items
    (g.D.Disk.may_leave was.disk) (g.D.Disk.may_leave c.sync.new.self) _ _ _ was.start
    (λ now. c.set_len.ensures.clean (c.sync.ensures.clean now)) c.if-self.false _ (was.ends c.if-self.false)
    (subst (Cut was.start (g.D.Disk.seen was.disk)) (sym seen) c.set_len.ensures.others)
    (rw seen c.in_ok-set_len.ensures.len)
    (λ bytes left. c.in_ok-sync.ensures.durable bytes left ∙ sym seen)
