-- What a close of a store leaves in the two files.
use Rattle.std.specs.Prelude.{◌≡◌}
use Rattle.sqlite_disk.specs.declared.Disk.{Ghosts}
use Rattle.sqlite_disk.specs.declared.Files.{Files}
use Rattle.sqlite_wal.specs.Files.{outcomes}
use Rattle.sqlite_wal.specs.Recovery.{Image}
use Rattle.sqlite_trees.specs.Tree.{Trees}
use Rattle.sqlite.specs.Closing.{HoldsAlone}
use Rattle.sqlite.specs.Files.{image_of}
use Rattle.store_sql_rows.specs.Ours.{content_of}
use Rattle.store.specs.Standing.{Content}

-- The database file holds these trees with its log, and without it: as the files read now, and whatever a stop leaves of
-- them.
pub record Rests {D : Type 0} (g : Ghosts D) (files : Files D) (db : Trees) : Type 0 where
  pub seen : HoldsAlone (image_of g files) db
  pub left : (image : Image) → outcomes g files.log files.db image → HoldsAlone image db

-- the same of tables
pub record IsAtRest {D : Type 0} (g : Ghosts D) (files : Files D) (content : Content) : Type 0 where
  pub db : Trees
  pub content_is : content ≡ content_of db
  pub seen : HoldsAlone (image_of g files) db
  pub left : (image : Image) → outcomes g files.log files.db image → HoldsAlone image db
