use Rattle.std.proofs.Common.{◌∙◌, ◌&&◌, None, sym}
use Rattle.store_memory.specs.Memory.{standing_of}
use Rattle.deliveries.specs.SettlingLaws.{leaves_at, targets}
use Rattle.desk_settling.specs.Settled.{falls_quiet, releases}
use Rattle.desk_why.specs.Steps.{today_of}
use Rattle.desk_why.proofs.TurnLemmas.{leaves-read, put-done, put-not}
use Rattle.desk_why.proofs.settling.leave.Goals as goal

pub returns-in_ok-put_at_targets-clause-left : goal.returns-in_ok-put_at_targets-clause-left
returns-in_ok-put_at_targets-clause-left c =
    let now = today_of c.args.today.now in
    let shown = (standing_of c.args.store.now).content.tables.shown in
    let s = c.args.schedule.now in
    let read = c.in_ok-shown.shown in
    put-done (falls_quiet now (λ name. read) s && releases s.on_leave) (λ point priority. leaves_at now shown point priority s)
    (λ point priority. targets point priority s) None (leaves-read now shown s read (c.in_ok-shown.ensures.value tt))
    c.args.authors.now c.put_at_targets.new.self (sym c.leaves.ensures ∙ c.if-leaves.true) c.in_ok-put_at_targets.ensures

pub returns-else-leaves-clause-left : goal.returns-else-leaves-clause-left
returns-else-leaves-clause-left c =
    let now = today_of c.args.today.now in
    let shown = (standing_of c.args.store.now).content.tables.shown in
    let s = c.args.schedule.now in
    let read = c.in_ok-shown.shown in
    put-not (falls_quiet now (λ name. read) s && releases s.on_leave) (λ point priority. leaves_at now shown point priority s)
    (λ point priority. targets point priority s) None (leaves-read now shown s read (c.in_ok-shown.ensures.value tt))
    c.args.authors.now (sym c.leaves.ensures ∙ c.if-leaves.false)
