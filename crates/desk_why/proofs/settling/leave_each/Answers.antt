use Rattle.std.proofs.Common.{◌≡◌, ◌∙◌, ◌+◌, ◌++◌, ◌∷◌, [], None, take, sym, ap, subst, arith}
use Rattle.std.proofs.lemmas.List.{take_more}
use Rattle.building.specs.declared.named_schedule.NamedSchedule.{NamedSchedule}
use Rattle.deliveries.specs.SettlingLaws.{leaves_at}
use Rattle.store_memory.specs.Memory.{standing_of}
use Rattle.store.specs.Standing.{Content}
use Rattle.desk_why.specs.Steps.{Becomes, put_where, today_of}
use Rattle.desk_why.proofs.TurnLemmas.{left-more}
use Rattle.desk_why.proofs.settling.leave_each.Goals as goal

pub loop-schedule-preserved : goal.loop-schedule-preserved
loop-schedule-preserved c =
    let so_far = c.loop-schedule.invariant in
    let schedules = c.args.schedules.now in
    let at = c.loop-schedule.schedule-index in
    let s = c.schedule-item.result in
    let now = today_of c.args.today.now in
    let more : take (at + 1) schedules ≡ take at schedules ++ s ∷ [] =
    take_more schedules at s (omega (arith, c.loop-schedule-test.true))
    ∙ ap (λ (x : NamedSchedule). take at schedules ++ x ∷ []) (sym c.schedule-item.is) in
    record {
      same = c.in_ok-leave.ensures.same ∙ so_far.same;
      left = left-more (leaves_at now (standing_of c.args.store.now).content.tables.shown) (take at schedules) (take (at + 1) schedules) s
          more c.args.authors.now c.loop-schedule.authors c.leave.new.authors so_far.left
          (subst (λ (content : Content). Becomes (put_where (λ point priority. leaves_at now content.tables.shown point priority s) None)
          c.loop-schedule.authors c.leave.new.authors) so_far.same c.in_ok-leave.ensures.left);
    }
