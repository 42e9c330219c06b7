use Rattle.std.proofs.Common.{◌≡◌, ◌++◌, is_some}
use Rattle.store_memory.specs.Slots.{standing_keys}
use Rattle.store_memory.proofs.shown_values.ShownValues.names.Given as goal

abbrev pub invariant-loop-name : goal.invariant-loop-name
invariant-loop-name l = l.names.items ++ standing_keys is_some l.name-iterator ≡ standing_keys is_some l.self.values.entries
