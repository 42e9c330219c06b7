use Rattle.std.proofs.Common.{◌≡◌, ℕ, Some, slice_get}
use Rattle.desk_settling.proofs.kept.KeptDay.new.Given as goal

abbrev pub invariant-loop : goal.invariant-loop
invariant-loop l = (index : ℕ) (kept : _) → slice_get l.spans.items index ≡ Some (Some kept) → ⊥
