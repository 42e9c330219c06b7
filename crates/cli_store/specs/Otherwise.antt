-- The line of a start whose building file makes other values of the record than the database has.
use Rattle.std.specs.Prelude.{◌≡◌, ℕ, List, ◌∷◌, [], ◌++◌, codes, Option, None, Some, Result, Ok}
use Rattle.std.specs.Io.KnownBytes.{Keeps}
use Rattle.building.specs.Building.{Building, contents_of}
use Rattle.building.specs.BuildingFile.{building_of}
use Rattle.cli_base.specs.Base.{BeginsOn}
use Rattle.cli_record.specs.Belonging.{TellsOtherwise}
use Rattle.cli_record.specs.Beside.{HoldsStill}
use Rattle.cli_record.specs.declared.difference.Difference.{Difference}
use Rattle.cli_record.specs.DifferenceLine.{line_of}
use Rattle.deliveries.specs.declared.delivery.Delivery.{Delivery}
use Rattle.points.specs.Beginnings.{AppendsStart}
use Rattle.store.specs.declared.open_fault.OpenFault.{OpenFault}
use Rattle.store.specs.Standing.{Standing}
use Rattle.store_memory.specs.declared.mem_store.MemStore.{MemStore}
use Rattle.store_memory.specs.Memory.{standing_of}

-- the first place of a point that has another value
abbrev pub otherwise_line : Difference → List ℕ
otherwise_line difference = codes "desk: with this building file the record makes other values: " ++ (line_of difference ++ 10 ∷ [])

-- the line of a difference is printed, or where memory or the output fails a beginning of it; without a difference nothing is
abbrev pub Tells : Option Difference → Option (List ℕ) → Option (List ℕ) → Type 0
Tells None old new = Keeps old new
Tells (Some difference) old new = AppendsStart old new (otherwise_line difference)

-- Of the store that was opened, only read until the run began over it: what a record of these bytes makes otherwise, on its base and
-- for the building of a file, is told.
pub record SaysOtherwise {S : Type 0} (standing : S → Standing) (may_open : Result S OpenFault → Type 0) (file : List ℕ)
    (base : Option MemStore) (list : List ℕ) (old new : Option (List ℕ)) : Type 0 where
  pub building : Building
  pub building_is : building_of file ≡ Ok (contents_of building)
  pub opened : S
  pub is_opened : may_open (Ok opened)
  pub began : S
  pub still : HoldsStill (standing opened) (standing began)
  pub otherwise : Option Difference
  pub is : (standing began).is_honest → (earlier : List Delivery) → BeginsOn standing_of building earlier base
      → TellsOtherwise building earlier list (standing opened).content.tables otherwise
  pub told : Tells otherwise old new
