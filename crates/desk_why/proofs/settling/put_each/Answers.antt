use Rattle.std.proofs.Common.{◌≡◌, ◌∙◌, ◌+◌, ◌++◌, ◌∷◌, [], take, sym, ap, subst, arith}
use Rattle.std.proofs.lemmas.List.{take_more}
use Rattle.building.specs.declared.named_schedule.NamedSchedule.{NamedSchedule}
use Rattle.deliveries.specs.SettlingLaws.{is_due_at}
use Rattle.store_memory.specs.Memory.{standing_of}
use Rattle.store.specs.Standing.{Content}
use Rattle.desk_why.specs.Settling.{held_by_schedule}
use Rattle.desk_why.specs.Steps.{Becomes, put_where, today_of}
use Rattle.desk_why.proofs.TurnLemmas.{put-more}
use Rattle.desk_why.proofs.settling.put_each.Goals as goal

pub loop-schedule-preserved : goal.loop-schedule-preserved
loop-schedule-preserved c =
    let so_far = c.loop-schedule.invariant in
    let schedules = c.args.schedules.now in
    let at = c.loop-schedule.schedule-index in
    let s = c.schedule-item.result in
    let now = today_of c.args.today.now in
    let settling = c.args.today.now.settling in
    let more : take (at + 1) schedules ≡ take at schedules ++ s ∷ [] =
    take_more schedules at s (omega (arith, c.loop-schedule-test.true))
    ∙ ap (λ (x : NamedSchedule). take at schedules ++ x ∷ []) (sym c.schedule-item.is) in
    record {
      same = c.in_ok-put_due.ensures.same ∙ so_far.same;
      put = put-more (is_due_at now (standing_of c.args.store.now).content.tables.shown) (take at schedules) (take (at + 1) schedules) s
          more c.args.authors.now c.loop-schedule.authors c.put_due.new.authors now settling so_far.put
          (subst (λ (content : Content). Becomes (put_where (λ point priority. is_due_at now content.tables.shown point priority s)
          (held_by_schedule now settling s)) c.loop-schedule.authors c.put_due.new.authors) so_far.same c.in_ok-put_due.ensures.put);
    }
