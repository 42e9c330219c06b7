-- While the store is open, the calendars of the kept day go on agreeing with the imported entries.
use Rattle.std.specs.Prelude.{◌≡◌, false}
use Rattle.building.specs.Building.{Building}
use Rattle.desk_settling.specs.declared.kept.Kept.{Kept}
use Rattle.desk_settling.specs.Kept.{AreToday}
use Rattle.store.specs.Standing.{Standing}

-- what is kept of a day stays true of the store, unless it is shut
abbrev pub KeepsToday : Building → Kept → Kept → Standing → Standing → Type 0
KeepsToday building before after old new = new.is_honest → new.is_shut ≡ false
    → AreToday building old.content.tables.imported before → AreToday building new.content.tables.imported after
