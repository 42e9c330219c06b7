-- Which part of a database two files have lost, by their lengths alone.
use Rattle.std.specs.Prelude.{◌≡◌, ◌⊎◌, ℕ, ◌<◌, ◌≤◌, Option, None, IsSomeAnd}

-- A database of one page, with no table, and no log. A desk makes the log before it writes to the database file, and has
-- its tables there before the first delivery.
abbrev pub HasLostLog : ℕ → ℕ → Option ℕ → Type 0
HasLostLog database page log = (0 < database) × (database ≤ page) × (log ≡ None)

-- No database, and a log with a frame: its header has 32 bytes, and that of a frame 24. A desk writes the first page of
-- the database file before it writes a frame.
abbrev pub HasLostDatabase : ℕ → Option ℕ → Type 0
HasLostDatabase database log = (database ≡ 0) × IsSomeAnd log (λ length. 56 ≤ length)

abbrev pub HasLostPart : ℕ → ℕ → Option ℕ → Type 0
HasLostPart database page log = HasLostLog database page log ⊎ HasLostDatabase database log
