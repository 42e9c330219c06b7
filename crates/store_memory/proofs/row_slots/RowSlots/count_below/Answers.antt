use Rattle.std.proofs.Common.{◌≡◌, ◌≤◌, length, nat_lt, rules, subst, arith}
use Rattle.std.proofs.lemmas.List.Sorted.{IsPartitionPoint-from_clause}
use Rattle.store_memory.specs.declared.row_slots.RowSlot.{RowSlot}
use Rattle.store_memory.specs.RowSlots.{IsCountBelow}
use Rattle.store_memory.proofs.RowSlotLemmas.{counted, parted}
use Rattle.store_memory.proofs.row_slots.RowSlots.count_below.Goals as goal

pub returns : goal.returns
returns c =
    let slots = c.self.inside.slots.items in
    let count = c.partition_point.result in
    let long : c.self.inside.slots.len ≡ length slots = c.self.inside.slots.ok.0 in
    let bound : count ≤ length slots = let most = c.partition_point.ensures.bound in omega (arith, most, long) in
    let cut = IsPartitionPoint-from_clause (λ (s : RowSlot). nat_lt s.number c.args.number) slots count
    c.partition_point.ensures.partitioned (parted slots c.self.invariant c.args.number) (λ a r q k. search rules) in
    subst (λ s. IsCountBelow s c.args.number count) c.self.view_is (counted slots c.self.invariant c.args.number count bound cut)
