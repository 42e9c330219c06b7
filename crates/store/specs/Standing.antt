-- How a store fares: what reads, commits, failures and stops do to its content.
use Rattle.std.specs.Prelude.{◌≡◌, ℕ, ◌-◌, ◌^◌, ◌<◌, ◌↔◌, ◌⊎◌, Bool, false, true, Option, Some, None}
use Rattle.std.specs.Bool.{IsTrue}
use Rattle.store.specs.declared.change.Change.{Change}
use Rattle.store.specs.declared.fault.StoreFault.{StoreFault}
use Rattle.store.specs.declared.fault.StoreFault.TheVariants.{Failed, Shut, BadRow}
use Rattle.store.specs.Asked.{Asked}
use Rattle.store.specs.Change.{with_change}
use Rattle.store.specs.Tables.{Tables}

-- What a store holds: its tables, and whether each row that it keeps can stand. Of a row that cannot the
-- tables tell nothing.
pub record Content : Type 0 where
  pub tables : Tables
  pub is_sound : Bool

-- tables whose rows can all stand
abbrev pub sound : Tables → Content
sound tables = record { tables = tables; is_sound = true }

-- How a store stands.
pub record Standing : Type 1 where
  -- what it holds
  pub content : Content
  -- whether a failure has shut it
  pub is_shut : Bool
  -- how often the device or the database has failed
  pub failures : ℕ
  -- so far the device has given back what was written, and nobody else wrote there
  pub is_honest : Type 0
  -- what a stop at this moment may leave, opened again
  pub may_leave : Content → Type 0
  -- of which rows that can be asked for one is kept that cannot stand
  pub cannot_stand : Asked → Bool

-- a count that stays at its greatest value, and has risen there too
abbrev pub HasRisen : ℕ → ℕ → Type 0
HasRisen old new = (old < new) ⊎ ((old ≡ 2 ^ 64 - 1) × (new ≡ old))

-- while a store is open, a stop leaves what it holds and nothing else
abbrev pub IsSettled : Standing → Type 0
IsSettled standing =
    standing.is_honest → standing.is_shut ≡ false → (content : Content) → standing.may_leave content → content ≡ standing.content

-- nothing is touched: it holds the same, and a stop leaves nothing that it could not leave before
pub record IsUntouched (old new : Standing) : Type 0 where
  pub content : new.content ≡ old.content
  pub leaves : (content : Content) → new.may_leave content → old.may_leave content

-- what each call says of the failures, of the fault that it tells or of none: S3 on a shut store and only
-- there, which it leaves untouched; S2 where the store failed in this call, which shuts it
pub record Goes (fault : Option StoreFault) (old new : Standing) : Type 0 where
  pub honest : new.is_honest → old.is_honest
  pub shut : (fault ≡ Some Shut) ↔ IsTrue old.is_shut
  pub untouched : new.is_honest → IsTrue old.is_shut → IsUntouched old new
  pub goes_on : (fault ≡ Some Failed → ⊥) → new.is_shut ≡ old.is_shut
  pub steady : (fault ≡ Some Failed → ⊥) → new.failures ≡ old.failures
  pub failed : fault ≡ Some Failed → IsTrue new.is_shut × HasRisen old.failures new.failures
  pub settled : IsSettled new

-- a read changes nothing; a row that cannot stand is reported only where there is one
pub record Reads (fault : Option StoreFault) (old new : Standing) : Type 0 where
  pub goes : Goes fault old new
  pub kept : new.is_honest → (fault ≡ Some Failed → ⊥) → new.content ≡ old.content
  pub rows : new.is_honest → (fault ≡ Some Failed → ⊥) → new.cannot_stand ≡ old.cannot_stand
  pub left : new.is_honest → old.is_shut ≡ false → (content : Content) → new.may_leave content → content ≡ old.content
  pub bad_row : new.is_honest → fault ≡ Some BadRow → old.content.is_sound ≡ false

-- a store that a read has shown to be open
abbrev pub IsOpen : Standing → Type 0
IsOpen standing = Reads None standing standing

-- a content with the whole change; a change makes no row that cannot stand
pub record Makes (change : Change) (old new : Content) : Type 0 where
  pub tables : new.tables ≡ with_change change old.tables
  pub is_sound : old.is_sound ≡ true → new.is_sound ≡ true

-- a commit is made whole or not at all
pub record Commits (change : Change) (fault : Option StoreFault) (old new : Standing) : Type 0 where
  pub goes : Goes fault old new
  pub made : new.is_honest → fault ≡ None → Makes change old.content new.content
  pub unchanged : new.is_honest → new.is_shut ≡ false → (reported : StoreFault) → fault ≡ Some reported → new.content ≡ old.content
  pub left : new.is_honest → old.is_shut ≡ false → (content : Content) → new.may_leave content
      → (content ≡ old.content) ⊎ Makes change old.content content
  pub never_bad : fault ≡ Some BadRow → ⊥
  -- whatever could stand can stand still
  pub stands : new.is_honest → new.is_shut ≡ false → (asked : Asked) → old.cannot_stand asked ≡ false → new.cannot_stand asked ≡ false

-- A call that makes one change or none, whatever the store held before. Where it is refused and the store is not shut,
-- nothing has changed; after any exit a stop leaves what was held, or that with one change made whole.
pub record ChangesOnce (fault : Option StoreFault) (old new : Standing) : Type 0 where
  pub made : new.is_honest → fault ≡ None → (new.content ≡ old.content) ⊎ ((change : Change) × Makes change old.content new.content)
  pub unchanged : new.is_honest → new.is_shut ≡ false → (reported : StoreFault) → fault ≡ Some reported → new.content ≡ old.content
  pub left : new.is_honest → old.is_shut ≡ false → (content : Content) → new.may_leave content
      → (content ≡ old.content) ⊎ ((change : Change) × Makes change old.content content)
