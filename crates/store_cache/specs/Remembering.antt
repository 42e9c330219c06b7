-- What a store over another remembers of it.
use Rattle.std.specs.Prelude.{◌≡◌, Bool, false, true, Option, None, Some}
use Rattle.store.specs.declared.fault.StoreFault.{StoreFault}
use Rattle.store.specs.declared.fault.StoreFault.TheVariants.{NoMemory, Failed, Shut, BadRow}
use Rattle.store.specs.Standing.{IsSettled, Standing}
use Rattle.store_cache.specs.declared.memory.Memory.{Memory}
use Rattle.store_cache.specs.Recalled.{Recalls}

-- whether a store is shut after a call that reported this
abbrev pub shut_after : Option StoreFault → Bool → Bool
shut_after None was_shut = was_shut
shut_after (Some NoMemory) was_shut = was_shut
shut_after (Some Failed) was_shut = true
shut_after (Some Shut) was_shut = was_shut
shut_after (Some BadRow) was_shut = was_shut

-- It is known whether the store below is shut; and while it is open, and its device has given back what was written, what is
-- remembered is what its tables have.
pub record Remembers (standing : Standing) (memory : Memory) (is_shut : Bool) : Type 0 where
  pub shut : standing.is_shut ≡ is_shut
  pub settled : IsSettled standing
  pub recalls : standing.is_honest → is_shut ≡ false → Recalls memory standing.content.tables standing.cannot_stand
