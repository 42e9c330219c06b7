use Rattle.std.proofs.Common.{◌<◌, length, rules}
use Rattle.store_memory.proofs.EntryLemmas.{kept-more}
use Rattle.store_memory.specs.Slots.{has_text}
use Rattle.store_memory.proofs.calendar_table.CalendarTable.keep_each.Goals as goal

pub loop-entry-preserved : goal.loop-entry-preserved
loop-entry-preserved c = λ q.
    let below : c.loop-entry.entry-index < length c.args.entries.now = search rules in
    kept-more q c.args.entries.now c.loop-entry.entry-index c.entry-item.result (has_text c.loop-entry.self.entries q)
    (has_text c.keep.new.self.entries q) _ below c.entry-item.is (c.in_ok-keep.ensures q) (c.loop-entry.invariant q)
