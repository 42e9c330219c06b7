-- The priorities at which something may be written, and those of events.
use Rattle.std.specs.Prelude.{ℕ, ℤ, pos, negsuc, ◌==◌, Bool, ◌&&◌, not, nat_le, Option, Some, None, if◌then◌else◌}

-- 1 to 16
abbrev pub is_priority : ℕ → Bool
is_priority n = nat_le 1 n && nat_le n 16

-- 1 to 16, and not 6 (19.2)
abbrev pub is_write_priority : ℕ → Bool
is_write_priority n = is_priority n && not (n == 6)

abbrev pub write_priority_of : ℤ → Option ℕ
write_priority_of (pos n) = if is_write_priority n then Some n else None
write_priority_of (negsuc n) = None

abbrev pub event_priority_of : ℤ → Option ℕ
event_priority_of (pos n) = if is_priority n then Some n else None
event_priority_of (negsuc n) = None
