-- What is known of a file that a run reads.
use Rattle.std.specs.Prelude.{ℕ, List, Option, None, Result, Ok, Err}

-- the bytes that an opened reader has left, where they are known
abbrev pub bytes_of : {R E : Type 0} → (R → Option (List ℕ)) → Result R E → Option (List ℕ)
bytes_of remaining (Ok reader) = remaining reader
bytes_of {R} {E} remaining (Err error) = None
