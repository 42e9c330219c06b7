use Rattle.std.proofs.Common.{◌≡◌, ◌∙◌, ap, subst}
use Rattle.store.proofs.ReadLemmas.{kept-read}
use Rattle.store.specs.Standing.{Content}
use Rattle.desk_settling.specs.Calendars.{calendars_of}
use Rattle.desk_settling.specs.Kept.{HasSpans}
use Rattle.desk_settling.specs.Settled.{changes_shown, written}
use Rattle.desk_settling.specs.Turns.{now_at}
use Rattle.desk_settling.specs.declared.kept.KeptDay.{KeptDay}
use Rattle.desk_settling.proofs.RestLemmas.{since_rests}
use Rattle.desk_settling.proofs.ValueLemmas.{reported-same, written-same}
use Rattle.desk_settling.proofs.settlement.settle_again.Given as given
use Rattle.desk_settling.proofs.settlement.settle_again.Goals.{After-settle_on}
use Rattle.desk_settling.proofs.settlement.settle_again.Goals as goal

-- the reads change nothing
unchanged : (g : given.Over) (c : After-settle_on g) → (g.S.Store.standing c.settle_on.new.store).is_honest
    → (g.S.Store.standing c.day_of.new.store).content ≡ (g.S.Store.standing c.args.store.now).content
unchanged g c honest =
    kept-read (g.S.Store.standing c.args.store.now) (g.S.Store.standing c.day_of.new.store) c.in_ok-day.ensures.reads
    (c.settle_on.ensures.reads.goes.honest honest)

pub returns-clause-places : goal.returns-clause-places
returns-clause-places g c = λ honest kept_today imported tells rested.
    let first = g.S.Store.standing c.args.store.now in
    let b = c.args.building.now in
    let today = c.in_ok-day.day.calendars.items in
    let kept = unchanged g (goal.at.returns-clause-places g c).After-settle_on honest in
    let same = c.in_ok-day.ensures.today (c.in_ok-settlement.ensures.reads.goes.honest honest) kept_today imported tells in
    c.in_ok-settlement.ensures.places honest
    (since_rests today (calendars_of b imported) c.args.local.day _ first.content.tables.shown b.schedules
    c.args.since c.time_on-since.result (ap (λ (content : Content). content.tables.shown) kept) same c.time_on-since.ensures rested)
    ∙ (λ i. written (now_at today c.args.local) (kept i).tables.shown b.schedules)
    ∙ written-same today (calendars_of b imported) c.args.local first.content.tables.shown b.schedules same

pub returns-clause-shown : goal.returns-clause-shown
returns-clause-shown g c = λ honest kept_today imported tells rested.
    let first = g.S.Store.standing c.args.store.now in
    let b = c.args.building.now in
    let today = c.in_ok-day.day.calendars.items in
    let kept = unchanged g (goal.at.returns-clause-shown g c).After-settle_on honest in
    let same = c.in_ok-day.ensures.today (c.in_ok-settlement.ensures.reads.goes.honest honest) kept_today imported tells in
    c.in_ok-settlement.ensures.shown honest
    (since_rests today (calendars_of b imported) c.args.local.day _ first.content.tables.shown b.schedules
    c.args.since c.time_on-since.result (ap (λ (content : Content). content.tables.shown) kept) same c.time_on-since.ensures rested)
    ∙ (λ i. changes_shown (now_at today c.args.local) (kept i).tables.shown b.schedules)
    ∙ reported-same today (calendars_of b imported) c.args.local first.content.tables.shown b.schedules same

pub returns-clause-spans : goal.returns-clause-spans
returns-clause-spans g c = λ other is.
    let it : c.settle_on.new.kept ≡ other = cc in
    subst (λ (day : KeptDay). HasSpans c.args.building.now.schedules day) it c.in_ok-settlement.ensures.spans
