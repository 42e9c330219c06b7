use Rattle.std.proofs.Common.{◌∙◌, ℕ, List, OnOk, Option, ap, subst}
use Rattle.building.specs.declared.named_schedule.NamedSchedule.{NamedSchedule}
use Rattle.store_memory.specs.Memory.{standing_of}
use Rattle.desk_settling.specs.Calendars.{calendars_of, with_items}
use Rattle.desk_settling.specs.Turns.{now_at}
use Rattle.points.specs.Texts.{Text}
use Rattle.store.specs.Standing.{Content}
use Rattle.desk_why.specs.declared.author.Held.{Held}
use Rattle.desk_why.specs.Settling.{held_after_settling}
use Rattle.desk_why.specs.Steps.{Becomes}
use Rattle.desk_why.proofs.SettleLemmas.{held_after_settling-same}
use Rattle.desk_why.proofs.settling.settle.Goals as goal

pub returns-clause-settled : goal.returns-clause-settled
returns-clause-settled c = λ imported tells.
    let b = c.args.building.now in
    let local = c.args.local in
    let settling = c.args.settling in
    let today = c.in_ok-calendars.calendars.items in
    let shown = (standing_of c.args.store.now).content.tables.shown in
    let kept = c.in_ok-calendars.ensures.reads.kept tt (λ e. cc) in
    subst (λ (after : Text → ℕ → Option Held → Option Held). OnOk c.settle_each.result (Becomes after c.args.authors.now c.settle_each.new.authors))
    (ap (λ (content : Content). held_after_settling (now_at today local) content.tables.shown settling c.schedules.result.now) kept
    ∙ (ap (λ (schedules : List NamedSchedule). held_after_settling (now_at today local) shown settling schedules) c.schedules.ensures.schedules
    ∙ (λ i point priority held. held_after_settling-same today (calendars_of b (with_items imported c.args.items.now)) local
    (c.in_ok-calendars.ensures.today tt imported tells) shown settling b.schedules point priority held i)))
    c.settle_each.ensures.settled
