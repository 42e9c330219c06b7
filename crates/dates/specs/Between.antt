-- Numbers between two bounds.
use Rattle.std.specs.Prelude.{ℕ, Bool, ◌&&◌, nat_le, Option, Some, None, if◌then◌else◌}

-- n lies from low to high, both included
abbrev pub is_between : ℕ → ℕ → ℕ → Bool
is_between low high n = nat_le low n && nat_le n high

-- n, where it does
abbrev pub between : ℕ → ℕ → ℕ → Option ℕ
between low high n = if is_between low high n then Some n else None
