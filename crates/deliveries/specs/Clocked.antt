-- The change that a tick or an import makes in the tables.
use Rattle.std.specs.Prelude.{◌≡◌, ℤ, List, [], Option}
use Rattle.building.specs.Building.{Building}
use Rattle.local_times.specs.declared.local_clock.LocalTime.{LocalTime}
use Rattle.desk_settling.specs.Settled.{Shown}
use Rattle.store.specs.declared.change.Change.{Change}
use Rattle.store.specs.declared.change.ImportedEntry.{ImportedEntry}
use Rattle.points.specs.Texts.{Text}
use Rattle.deliveries.specs.Machine.{changes_shown_at, writes_at}

-- the places and what is shown, as the schedules settle over what is imported and what they show; with these
-- items and this last tick
pub record Settles (building : Building) (texts : Text → List Text) (shows : Shown) (local : Option LocalTime)
    (items : List ImportedEntry) (last : Option ℤ) (change : Change) : Type 0 where
  pub nexts : change.nexts.items ≡ []
  pub rows : change.rows.items ≡ []
  pub dropped : change.dropped.items ≡ []
  pub places : change.places.items ≡ writes_at building texts shows local
  pub shown : change.shown.items ≡ changes_shown_at building texts shows local
  pub imported : change.imported.items ≡ items
  pub last_tick : change.last_tick ≡ last
