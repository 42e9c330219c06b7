-- What a database holds that is made from a record, and the text that tells it.
use Rattle.std.specs.Prelude.{◌≡◌, ℕ, List, [], ◌∷◌, ◌++◌, ◌==◌, if◌then◌else◌, Option, Result, Ok, codes}
use Rattle.std.specs.Fmt.{decimal}
use Rattle.building.specs.Building.{Building, contents_of}
use Rattle.building.specs.BuildingFile.{building_of}
use Rattle.cli_base.specs.Base.{BeginsOn}
use Rattle.cli_check.specs.AdoptionRun.{Makes}
use Rattle.cli_check.specs.declared.adoption_fault.MakeFault.{MakeFault}
use Rattle.cli_record.specs.Replayed.{HoldsRecord, LeavesTorn}
use Rattle.deliveries.specs.declared.delivery.Delivery.{Delivery}
use Rattle.desk.specs.Opening.{Suits}
use Rattle.desk_adopt.specs.FindingLine.{holdings_line}
use Rattle.desk_adopt.specs.Surveyed.{IsSurvey}
use Rattle.desk_adopt.specs.declared.finding.Finding.{Finding}
use Rattle.desk_adopt.specs.declared.holdings.Holdings.{Holdings}
use Rattle.store.specs.Standing.{Standing, sound}
use Rattle.store.specs.Tables.{no_tables}
use Rattle.store_memory.specs.declared.mem_store.MemStore.{MemStore}
use Rattle.store_memory.specs.Memory.{standing_of}

-- how many bytes of the record are passed over, if any
abbrev pub torn_line : ℕ → List ℕ
torn_line torn = if torn == 0 then [] else codes "passed over: " ++ (decimal torn ++ codes " bytes behind the last line end\n")

abbrev pub rebuilt_text : ℕ → Holdings → List ℕ
rebuilt_text torn holdings = torn_line torn ++ (holdings_line holdings ++ 10 ∷ [])

-- the new store holds exactly the tables of earlier deliveries with those behind them that the whole lines of a record of these
-- bytes tell, and a desk opens over them
pub record Rebuilds (building : Building) (earlier : List Delivery) (list : List ℕ) (made : Standing) : Type 0 where
  pub holds : HoldsRecord building earlier list made
  pub suits : Suits building made.content.tables

-- the text tells what stands behind the whole lines of the record, and what the tables of the new store hold
pub record TellsRebuilt (building : Building) (list : List ℕ) (made : Standing) (text : List ℕ) : Type 0 where
  pub torn : ℕ
  pub left : LeavesTorn list torn
  pub findings : List Finding
  pub holdings : Holdings
  pub survey : IsSurvey building made.content.tables findings holdings
  pub text_is : text ≡ rebuilt_text torn holdings

-- the file is a building, and what the record tells was made in the store that was made empty, behind whatever earlier deliveries
-- the base has the tables of
pub record IsRebuilt {T : Type 0} (standing : T → Standing) (may_make : Result T MakeFault → Type 0) (base : Option MemStore)
    (file list : List ℕ) (made : T) (text : List ℕ) : Type 0 where
  pub building : Building
  pub building_is : building_of file ≡ Ok (contents_of building)
  pub rebuilds : Makes may_make (λ store. (standing store).content ≡ sound no_tables) → (standing made).is_honest
      → (earlier : List Delivery) → BeginsOn standing_of building earlier base → Rebuilds building earlier list (standing made)
  pub tells : (standing made).is_honest → TellsRebuilt building list (standing made) text
