-- Panels whose room grows.
use Rattle.std.proofs.Common.{◌∙◌}
use Rattle.store_memory.specs.declared.panels.Panels.{Panels}
use Rattle.store_memory.specs.Held.{Grows, KeepsRoom}

pub KeepsRoom-then : (first second third : Panels) → KeepsRoom first second → KeepsRoom second third → KeepsRoom first third
KeepsRoom-then first second third before after = record {
  tables = λ q here. after.tables q (before.tables q here);
  slots = λ q n here. after.slots q n (before.slots q n here);
}

pub Grows-then : (first second third : Panels) → Grows first second → Grows second third → Grows first third
Grows-then first second third before after = record {
  room = KeepsRoom-then first second third before.room after.room;
  next = λ q. after.next q ∙ before.next q;
  rows = λ q n. after.rows q n ∙ before.rows q n;
}
