use Rattle.std.proofs.Common.{rules}
use Rattle.deliveries.specs.Delivered.{Holds}
use Rattle.desk_record.specs.Recording.{HasWritten}
use Rattle.desk_record.proofs.InStepLemmas.{Holds-back, InStep-answered, InStep-back, InStep-failed, InStep-refused, InStep-taken, taken-back, written-line}
use Rattle.desk_record.proofs.delivering.deliver.Given as given
use Rattle.desk_record.proofs.delivering.deliver.Goals.{After-deliver}
use Rattle.desk_record.proofs.delivering.deliver.Goals as goal

pub returns-in_err-write_down-clause-recorded : goal.returns-in_err-write_down-clause-recorded
returns-in_err-write_down-clause-recorded g c = λ earlier honest honest_record step.
    let first = g.R.Recorder.standing c.args.recorder.now in
    let written = g.R.Recorder.standing c.write_down.new.self in
    let writes = rw c.building.ensures at c.in_err-write_down.ensures in
    InStep-refused c.args.desk.now.building earlier first written (g.S.Store.standing c.args.desk.now.store) step c.args.delivery.now
    c.in_err-write_down.field-0.0 honest_record writes

-- the delivery's line, once it is written down
line_written : (g : given.Over) (c : After-deliver g) → (g.R.Recorder.standing c.write_down.new.self).is_honest
    → HasWritten c.args.desk.now.building c.args.delivery.now (g.R.Recorder.standing c.args.recorder.now)
    (g.R.Recorder.standing c.write_down.new.self)
line_written g c honest_record =
    written-line c.args.desk.now.building c.args.delivery.now (g.R.Recorder.standing c.args.recorder.now)
    (g.R.Recorder.standing c.write_down.new.self) honest_record (rw c.building.ensures at c.in_ok-write_down.ensures)

pub returns-in-Ok-clause-written : goal.returns-in-Ok-clause-written
returns-in-Ok-clause-written g c = line_written g (goal.at.returns-in-Ok-clause-written g c).After-deliver

pub returns-in-Ok-clause-recorded : goal.returns-in-Ok-clause-recorded
returns-in-Ok-clause-recorded g c = λ earlier honest honest_record step.
    let (line, is, put) = line_written g (goal.at.returns-in-Ok-clause-recorded g c).After-deliver honest_record in
    InStep-answered c.args.desk.now.building earlier c.args.delivery.now line _ _ (g.S.Store.standing c.args.desk.now.store)
    (g.S.Store.standing c.deliver.new.self.store) step is put
    c.in-Ok.reply honest c.in-Ok.ensures.goes (λ list held. c.in-Ok.ensures.delivers list honest held)

pub returns-in-Failed-clause-recorded : goal.returns-in-Failed-clause-recorded
returns-in-Failed-clause-recorded g c = λ earlier honest honest_record step.
    let (line, is, put) = line_written g (goal.at.returns-in-Failed-clause-recorded g c).After-deliver (c.shut.ensures.honest honest_record) in
    let failed = rw c.in-Failed.is at c.in-Err.ensures in
    InStep-failed c.args.desk.now.building earlier c.args.delivery.now line _ _ (g.S.Store.standing c.args.desk.now.store)
    (g.S.Store.standing c.deliver.new.self.store) step is put
    (g.R.Recorder.standing c.shut.new.self) honest_record c.shut.ensures failed.goes (λ list held. failed.delivers list honest held)

pub returns-in_err-take_back-in_default-clause-recorded : goal.returns-in_err-take_back-in_default-clause-recorded
returns-in_err-take_back-in_default-clause-recorded g c = λ earlier honest honest_record step.
    let (line, is, put) = line_written g (goal.at.returns-in_err-take_back-in_default-clause-recorded g c).After-deliver (c.take_back.ensures.honest honest_record) in
    InStep-back c.args.desk.now.building earlier c.args.delivery.now line _ _ (g.S.Store.standing c.args.desk.now.store)
    (g.S.Store.standing c.deliver.new.self.store) step is put (g.R.Recorder.standing c.take_back.new.self) c.in-Err.fault
    c.in_err-take_back-in_default.field-0.0 c.in_default.not-Failed honest honest_record c.in-Err.ensures.goes
    (λ list held. c.in-Err.ensures.delivers list honest held) c.in_err-take_back-in_default.ensures

pub returns-in_err-take_back-in_default-clause-delivers : goal.returns-in_err-take_back-in_default-clause-delivers
returns-in_err-take_back-in_default-clause-delivers g c = λ earlier honest held.
    let kept : Holds c.args.desk.now.building earlier (g.S.Store.standing c.deliver.new.self.store) =
    Holds-back c.args.desk.now.building earlier c.args.delivery.now c.in-Err.fault (g.S.Store.standing c.deliver.new.self.store)
    c.in_default.not-Failed (c.in-Err.ensures.delivers earlier honest held) in
    search rules

pub returns-in_ok-take_back-in_default-clause-recorded : goal.returns-in_ok-take_back-in_default-clause-recorded
returns-in_ok-take_back-in_default-clause-recorded g c = λ earlier honest honest_record step.
    let (line, is, put) = line_written g (goal.at.returns-in_ok-take_back-in_default-clause-recorded g c).After-deliver (c.take_back.ensures.honest honest_record) in
    InStep-taken c.args.desk.now.building earlier c.args.delivery.now line _ _ (g.S.Store.standing c.args.desk.now.store)
    (g.S.Store.standing c.deliver.new.self.store) step is put (g.R.Recorder.standing c.take_back.new.self) c.in-Err.fault
    c.in_default.not-Failed honest c.in-Err.ensures.goes (λ list held. c.in-Err.ensures.delivers list honest held)
    (taken-back (g.R.Recorder.standing c.write_down.new.self) (g.R.Recorder.standing c.take_back.new.self) honest_record
    c.in_ok-take_back-in_default.ensures)
