use Rattle.std.proofs.Common.{◌≡◌, ◌∙◌}
use Rattle.store.proofs.ReadLemmas.{kept-read}
use Rattle.desk_settling.specs.Calendars.{calendars_of, with_items}
use Rattle.desk_settling.specs.Settled.{changes_shown, written}
use Rattle.desk_settling.specs.Turns.{now_at}
use Rattle.desk_settling.proofs.KeptLemmas.{if_ok_map}
use Rattle.desk_settling.proofs.ValueLemmas.{reported-same, written-same}
use Rattle.desk_settling.proofs.settlement.settle.Given as given
use Rattle.desk_settling.proofs.settlement.settle.Goals.{After-settle_on}
use Rattle.desk_settling.proofs.settlement.settle.Goals as goal

-- the reads change nothing
unchanged : (g : given.Over) (c : After-settle_on g) → (g.S.Store.standing c.settle_on.new.store).is_honest
    → (g.S.Store.standing c.new_day.new.store).content ≡ (g.S.Store.standing c.args.store.now).content
unchanged g c honest =
    kept-read (g.S.Store.standing c.args.store.now) (g.S.Store.standing c.new_day.new.store) c.in_ok-day.ensures.reads
    (c.settle_on.ensures.reads.goes.honest honest)

pub returns-clause-places : goal.returns-clause-places
returns-clause-places g c = λ honest imported tells.
    let first = g.S.Store.standing c.args.store.now in
    let b = c.args.building.now in
    let today = c.in_ok-day.day.calendars.items in
    let same = c.in_ok-day.ensures.today (c.settle_on.ensures.reads.goes.honest honest) imported tells in
    if_ok_map c.settle_on.result _ _ (c.settle_on.ensures.places honest tt) (λ settlement is.
    is ∙ (λ i. written (now_at today c.args.local) (unchanged g (goal.at.returns-clause-places g c).After-settle_on honest i).tables.shown b.schedules)
    ∙ written-same today (calendars_of b (with_items imported c.args.items.now)) c.args.local first.content.tables.shown b.schedules same)

pub returns-clause-shown : goal.returns-clause-shown
returns-clause-shown g c = λ honest imported tells.
    let first = g.S.Store.standing c.args.store.now in
    let b = c.args.building.now in
    let today = c.in_ok-day.day.calendars.items in
    let same = c.in_ok-day.ensures.today (c.settle_on.ensures.reads.goes.honest honest) imported tells in
    if_ok_map c.settle_on.result _ _ (c.settle_on.ensures.shown honest tt) (λ settlement is.
    is ∙ (λ i. changes_shown (now_at today c.args.local) (unchanged g (goal.at.returns-clause-shown g c).After-settle_on honest i).tables.shown b.schedules)
    ∙ reported-same today (calendars_of b (with_items imported c.args.items.now)) c.args.local first.content.tables.shown b.schedules same)
