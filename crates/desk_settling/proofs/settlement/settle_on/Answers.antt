use Rattle.std.proofs.Common.{◌∙◌, refl, sym, subst, List}
use Rattle.std.specs.Bool.{IsTrue}
use Rattle.std.specs.List.{flat_map, list_all}
use Rattle.building.specs.declared.named_schedule.NamedSchedule.{NamedSchedule}
use Rattle.points.specs.Priority.{is_write_priority}
use Rattle.desk_settling.specs.Kept.{HasSpans}
use Rattle.desk_settling.specs.Rests.{HaveRested}
use Rattle.desk_settling.specs.Settled.{cleared_by, put_by, shown_by}
use Rattle.desk_settling.specs.Turns.{now_at}
use Rattle.desk_settling.proofs.StepLemmas.{write_priorities}
use Rattle.desk_settling.proofs.ValueLemmas.{settled-places, settled-shown}
use Rattle.desk_settling.proofs.settlement.settle_on.Goals as goal

pub settle_each-requires-clause-priorities : goal.settle_each-requires-clause-priorities
settle_each-requires-clause-priorities g c =
    let b = c.args.building.now in
    subst (λ (schedules : List NamedSchedule). IsTrue
    (list_all (λ (schedule : NamedSchedule). is_write_priority schedule.priority) schedules))
    (sym c.schedules.ensures.schedules) (write_priorities b.points b.calendars b.schedules c.schedules.ensures.sound)

pub settle_each-requires-clause-spans : goal.settle_each-requires-clause-spans
settle_each-requires-clause-spans g c =
    subst (λ (schedules : List NamedSchedule). HasSpans schedules c.args.kept.now) (sym c.schedules.ensures.schedules) c.requires.spans

pub returns-clause-spans : goal.returns-clause-spans
returns-clause-spans g c =
    subst (λ (schedules : List NamedSchedule). HasSpans schedules c.settle_each.new.kept) c.schedules.ensures.schedules
    c.in_ok-all.ensures.spans

pub returns-clause-places : goal.returns-clause-places
returns-clause-places g c = λ honest rested.
    let first = g.S.Store.standing c.args.store.now in
    let b = c.args.building.now in
    let local = c.args.local in
    let calendars = c.args.kept.now.calendars.items in
    let all = c.in_ok-all.all in
    let shown = first.content.tables.shown in
    let each = subst (λ (schedules : List NamedSchedule). HaveRested calendars local.day shown schedules c.args.since)
    (sym c.schedules.ensures.schedules) rested in
    settled-places calendars calendars local first.content.tables.shown b.schedules c.in_ok-joined.field-0.places.items
    all.cleared.items all.put.items refl c.in_ok-joined.ensures.places
    (c.in_ok-all.ensures.cleared honest each
    ∙ (λ i. flat_map (cleared_by (now_at calendars local) first.content.tables.shown) (c.schedules.ensures.schedules i)))
    (c.in_ok-all.ensures.put honest each
    ∙ (λ i. flat_map (put_by (now_at calendars local) first.content.tables.shown) (c.schedules.ensures.schedules i)))

pub returns-clause-shown : goal.returns-clause-shown
returns-clause-shown g c = λ honest rested.
    let first = g.S.Store.standing c.args.store.now in
    let b = c.args.building.now in
    let local = c.args.local in
    let calendars = c.args.kept.now.calendars.items in
    let each = subst (λ (schedules : List NamedSchedule). HaveRested calendars local.day first.content.tables.shown schedules
    c.args.since) (sym c.schedules.ensures.schedules) rested in
    settled-shown calendars calendars local first.content.tables.shown b.schedules c.in_ok-joined.field-0.shown.items refl
    ((λ i. (c.in_ok-joined.ensures.shown i).items) ∙ (c.in_ok-all.ensures.shown honest each
    ∙ (λ i. flat_map (shown_by (now_at calendars local) first.content.tables.shown) (c.schedules.ensures.schedules i))))
