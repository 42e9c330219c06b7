use Rattle.std.proofs.Common.{◌≡◌, None, take}
use Rattle.std.specs.List.{list_any}
use Rattle.deliveries.specs.SettlingLaws.{leaves_at}
use Rattle.store_memory.specs.Memory.{standing_of}
use Rattle.desk_why.specs.Steps.{Becomes, put_where, today_of}
use Rattle.desk_why.proofs.settling.leave_each.Given as goal

-- those of the schedules so far that leave have cleared their places
abbrev pub invariant-loop-schedule : goal.invariant-loop-schedule
invariant-loop-schedule l = record {
  same : (standing_of l.store).content ≡ (standing_of l.initial.store).content;
  left : Becomes (put_where (λ point priority. list_any (leaves_at (today_of l.today)
      (standing_of l.initial.store).content.tables.shown point priority) (take l.schedule-index l.schedules)) None) l.initial.authors l.authors;
}
