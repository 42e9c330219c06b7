-- What a look at the tables does to a store.
use Rattle.std.specs.Prelude.{◌≡◌, ◌⊎◌, false}
use Rattle.store.specs.Standing.{Content, Standing}

-- While it is open it was open, and holds what it held; a stop leaves nothing that it could not leave before, but what an open
-- store held.
pub record OnlyReads (old new : Standing) : Type 0 where
  pub held : new.is_shut ≡ false → (old.is_shut ≡ false) × (new.content ≡ old.content)
  pub leaves : (content : Content) → new.may_leave content → old.may_leave content ⊎ ((old.is_shut ≡ false) × (content ≡ old.content))
