-- What a reader gave, where it went, and how often the reader has failed.
use Rattle.std.specs.Prelude.{◌≡◌, ◌⊎◌, ℕ, List, [], ◌++◌, Option, Result, Ok, Err, ⊤}
use Rattle.std.specs.Io.KnownBytes.{Consumes}
use Rattle.panel_http.specs.declared.gathering.Gathered.{Gathered}
use Rattle.panel_http.specs.declared.gathering.Gathered.TheVariants as gathered
use Rattle.panel_http.specs.declared.untaken.Untaken.{Untaken}
use Rattle.panel_http.specs.declared.untaken.Untaken.TheVariants as untaken
use Rattle.store.specs.Standing.{HasRisen}

-- what the reader lost of its bytes was put behind those that had come, and nothing else
abbrev pub Takes : Option (List ℕ) → Option (List ℕ) → List ℕ → List ℕ → Type 0
Takes before after had has = (taken : List ℕ) × Consumes before after taken × (has ≡ had ++ taken)

-- the reader's count has risen where a read failed, and else stayed
abbrev pub Counts : ℕ → ℕ → Gathered → Type 0
Counts before after gathered.Waits = HasRisen before after
Counts before after gathered.Lost = HasRisen before after
Counts before after (gathered.Asks request) = after ≡ before
Counts before after gathered.Whole = after ≡ before
Counts before after gathered.Ended = after ≡ before
Counts before after gathered.HasMore = after ≡ before
Counts before after gathered.NoMemory = after ≡ before

-- it is one of a read that gave nothing
abbrev pub IsOfRead : Untaken → Type 0
IsOfRead untaken.Waits = ⊤
IsOfRead untaken.Lost = ⊤
IsOfRead untaken.NoMemory = ⊥

-- the same of one read
abbrev pub CountsTaking : ℕ → ℕ → Result ℕ Untaken → Type 0
CountsTaking before after (Ok count) = after ≡ before
CountsTaking before after (Err untaken.Waits) = HasRisen before after
CountsTaking before after (Err untaken.Lost) = HasRisen before after
CountsTaking before after (Err untaken.NoMemory) = after ≡ before

-- a read failed, or there is no byte
abbrev pub TellsNone : ℕ → ℕ → List ℕ → Type 0
TellsNone before after bytes = HasRisen before after ⊎ (bytes ≡ [])
