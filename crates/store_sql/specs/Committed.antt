-- A change that is committed.
use Rattle.std.specs.Prelude.{◌≡◌, IsTrue}
use Rattle.sqlite.specs.State.{State}
use Rattle.store.specs.declared.change.Change.{Change}
use Rattle.store.specs.Change.{with_change}
use Rattle.store_sql_rows.specs.Ours.{IsOurs, Makes, kept_in}

-- the whole change is in the tables, and they are committed
pub record IsCommitted (change : Change) (old new : State) : Type 0 where
  pub was_open : IsTrue old.is_open
  pub is_open : IsTrue new.is_open
  pub same : new.now ≡ new.committed
  pub ours : IsOurs new.now
  pub makes : Makes (with_change change) (kept_in old.now.trees) (kept_in new.now.trees)

-- the connection was open, and shows what was committed
pub record ShowsCommitted (old new : State) : Type 0 where
  pub was_open : IsTrue old.is_open
  pub now : new.now ≡ old.committed
  pub committed : new.committed ≡ old.committed
