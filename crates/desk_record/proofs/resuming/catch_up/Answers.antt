use Rattle.std.proofs.Common.{List, subst}
use Rattle.sqlite_disk.specs.Disk.{Cut}
use Rattle.std.specs.Bool.{IsTrue}
use Rattle.deliveries.specs.declared.delivery.Delivery.{Delivery}
use Rattle.desk_record.specs.LastLine.{TellsLast}
use Rattle.desk_record.specs.Recorded.{IsBehind, listed}
use Rattle.desk_record.specs.Resuming.{KeepsLines}
use Rattle.desk_record.proofs.EndingLemmas.{is-mended, keeps-lines, on-err}
use Rattle.desk_record.proofs.resuming.catch_up.Given as given
use Rattle.desk_record.proofs.resuming.catch_up.Goals.{After-mend}
use Rattle.desk_record.proofs.resuming.catch_up.Goals as goal

-- what the file's end tells
last_line : (g : given.Over) (c : After-mend g) → IsTrue (g.D.Disk.is_clean c.mend.new.disk)
    → TellsLast c.args.desk.now.building (g.D.Disk.seen c.args.disk.now) c.in_ok-ending.ending.whole c.in_ok-ending.ending.delivery
last_line g c now =
    let (front, joined, size) = c.in_ok-end.ensures.end (c.mend.ensures.clean now) in
    let tells = rw (c.building.ensures, c.deref.ensures.value) at c.in_ok-ending.ensures in
    tells (g.D.Disk.seen c.args.disk.now) front joined size

-- what is cut of it
cut_whole : (g : given.Over) (c : After-mend g)
    → Cut c.in_ok-ending.ending.whole (g.D.Disk.seen c.args.disk.now) (g.D.Disk.seen c.mend.new.disk)
cut_whole g c =
    subst (λ bytes. Cut c.in_ok-ending.ending.whole bytes (g.D.Disk.seen c.mend.new.disk)) c.read_end.ensures.seen c.mend.ensures.cut

-- the lines that there are stay
kept_lines : (g : given.Over) (c : After-mend g) → IsTrue (g.D.Disk.is_clean c.mend.new.disk)
    → KeepsLines c.args.desk.now.building (g.D.Disk.seen c.args.disk.now) (g.D.Disk.seen c.mend.new.disk)
kept_lines g c now =
    keeps-lines c.args.desk.now.building (g.D.Disk.seen c.args.disk.now) (g.D.Disk.seen c.mend.new.disk) c.in_ok-ending.ending.whole
    c.in_ok-ending.ending.delivery (last_line g c now) (cut_whole g c)

pub returns-in_err-mend-clause-keeps : goal.returns-in_err-mend-clause-keeps
returns-in_err-mend-clause-keeps g c = on-err _ (IsTrue (g.D.Disk.is_clean c.mend.new.disk)
    → KeepsLines c.args.desk.now.building (g.D.Disk.seen c.args.disk.now) (g.D.Disk.seen c.mend.new.disk))
    (kept_lines g (goal.at.returns-in_err-mend-clause-keeps g c).After-mend)

pub returns-in_err-catch_up_store-clause-keeps : goal.returns-in_err-catch_up_store-clause-keeps
returns-in_err-catch_up_store-clause-keeps g c = on-err _ (IsTrue (g.D.Disk.is_clean c.mend.new.disk)
    → KeepsLines c.args.desk.now.building (g.D.Disk.seen c.args.disk.now) (g.D.Disk.seen c.mend.new.disk))
    (kept_lines g (goal.at.returns-in_err-catch_up_store-clause-keeps g c).After-mend)

pub returns-in_err-catch_up_store-clause-behind : goal.returns-in_err-catch_up_store-clause-behind
returns-in_err-catch_up_store-clause-behind g c = on-err _ ((earlier : List Delivery) → (g.S.Store.standing c.catch_up_store.new.desk.store).is_honest
    → IsTrue (g.D.Disk.is_clean c.mend.new.disk)
    → IsBehind c.args.desk.now.building earlier (listed c.args.desk.now.building (g.D.Disk.seen c.args.disk.now)) (g.S.Store.standing c.args.desk.now.store)
    → IsBehind c.args.desk.now.building earlier (listed c.args.desk.now.building (g.D.Disk.seen c.args.disk.now))
    (g.S.Store.standing c.catch_up_store.new.desk.store)) (λ earlier honest now behind.
    c.in_err-catch_up_store.ensures.behind earlier (g.D.Disk.seen c.args.disk.now) honest (last_line g (goal.at.returns-in_err-catch_up_store-clause-behind g c).After-mend now) behind)

pub returns-clause-mended : goal.returns-clause-mended
returns-clause-mended g c = λ now.
    is-mended c.args.desk.now.building (g.D.Disk.seen c.args.disk.now) (g.D.Disk.seen c.mend.new.disk) c.in_ok-ending.ending.whole
    c.in_ok-ending.ending.delivery (last_line g (goal.at.returns-clause-mended g c).After-mend now) (cut_whole g (goal.at.returns-clause-mended g c).After-mend)
    (g.D.Disk.may_leave c.mend.new.disk) c.in_ok-mend.ensures.len c.in_ok-mend.ensures.on_disk

pub returns-clause-caught_up : goal.returns-clause-caught_up
returns-clause-caught_up g c = λ earlier honest now behind.
    c.in_ok-catch_up_store.ensures.caught_up earlier (g.D.Disk.seen c.args.disk.now) honest (last_line g (goal.at.returns-clause-caught_up g c).After-mend now) behind
