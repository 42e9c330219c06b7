use Rattle.std.proofs.Common.{◌≡◌, take}
use Rattle.deliveries.specs.SettlingLaws.{is_due_at, last_of}
use Rattle.store_memory.specs.Memory.{standing_of}
use Rattle.desk_why.specs.Settling.{held_or}
use Rattle.desk_why.specs.Steps.{Becomes, today_of}
use Rattle.desk_why.proofs.settling.put_each.Given as goal

-- the due ones of the schedules so far have put
abbrev pub invariant-loop-schedule : goal.invariant-loop-schedule
invariant-loop-schedule l = record {
  same : (standing_of l.store).content ≡ (standing_of l.initial.store).content;
  put : Becomes (λ point priority held. held_or (today_of l.today) l.today.settling (last_of (is_due_at (today_of l.today)
      (standing_of l.initial.store).content.tables.shown point priority) (take l.schedule-index l.schedules)) held) l.initial.authors l.authors;
}
