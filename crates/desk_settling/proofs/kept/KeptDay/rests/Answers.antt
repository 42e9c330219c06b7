use Rattle.std.proofs.Common.{◌∙◌, sym, subst, IfSome, Option, ℕ}
use Rattle.desk_settling.specs.Rests.{Rests, at_time}
use Rattle.desk_settling.proofs.RestLemmas.{not_true, rests_inactive, rests_over}
use Rattle.desk_settling.proofs.kept.KeptDay.rests.Goals as goal

pub returns-then-one_span_holds : goal.returns-then-one_span_holds
returns-then-one_span_holds c = λ schedules shown here spans rested is.
    let calendars = c.args.self.now.calendars.items in
    let day = c.args.self.now.day in
    let s = c.args.schedule.now in
    let earlier = subst (λ (o : Option ℕ). IfSome o (λ at. Rests (at_time calendars day at) shown s)) c.in-Some.is rested in
    rests_over calendars day shown s c.in-Some.earlier c.args.time earlier
    (c.one_span_holds.ensures schedules s here spans c.if-one_span_holds.true)

pub returns : goal.returns
returns c = λ schedules shown here spans rested is.
    let calendars = c.args.self.now.calendars.items in
    let day = c.args.self.now.day in
    let s = c.args.schedule.now in
    let earlier = subst (λ (o : Option ℕ). IfSome o (λ at. Rests (at_time calendars day at) shown s)) c.in-Some.is rested in
    rests_inactive calendars day shown s c.in-Some.earlier c.args.time earlier (sym c.active.ensures ∙ not_true c.active.result is)
