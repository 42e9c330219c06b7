use Rattle.std.proofs.Common.{◌≡◌, ℤ, pos, ◌-ℤ◌, ◌*ℤ◌, ◌≤ℤ◌}
use Rattle.moments.specs.Meaning.{Shows}
use Rattle.moments.proofs.clock_search.first_moment.Given as goal

abbrev pub invariant-loop-step : goal.invariant-loop-step
invariant-loop-step l = record {
  zone : l.zone ≡ l.initial.zone;
  local : l.local ≡ l.initial.local;
  clock : l.clock ≡ l.initial.clock;
  from : pos 0 ≤ℤ l.step;
  later : (at : ℤ) → Shows l.initial.zone l.initial.local at
      → (l.initial.clock -ℤ (pos 93_599 -ℤ l.step) *ℤ pos 100) ≤ℤ at;
}
