-- What a comparison of a database with a record says.
use Rattle.std.specs.Prelude.{◌≡◌, ◌⊎◌, ℕ, Bool, false, true, List, [], ◌∷◌, ◌++◌, length, Option, Some, Result, Ok, IfOk, IfSome}
use Rattle.std.specs.Io.KnownBytes.{Appends, Keeps}
use Rattle.std.specs.List.{flat_map}
use Rattle.building.specs.Building.{Building, contents_of}
use Rattle.building.specs.BuildingFile.{building_of}
use Rattle.cli_base.specs.Base.{BeginsOn}
use Rattle.deliveries.specs.declared.delivery.Delivery.{Delivery}
use Rattle.deliveries.specs.Tables.{tables}
use Rattle.delivery_json.specs.declared.parsed_line.ParsedLine.{ParsedLine}
use Rattle.desk_cli.specs.Replay.{deliveries_in, lines_of, parsed_by}
use Rattle.points.specs.Beginnings.{AppendsStart}
use Rattle.cli_common.specs.declared.status.Status.{Status}
use Rattle.cli_common.specs.declared.status.Status.TheVariants.{Done, Fault}
use Rattle.store.specs.declared.open_fault.OpenFault.{OpenFault}
use Rattle.store.specs.Standing.{Standing}
use Rattle.store.specs.Tables.{Tables}
use Rattle.store_memory.specs.declared.mem_store.MemStore.{MemStore}
use Rattle.store_memory.specs.Memory.{standing_of}
use Rattle.cli_record.specs.declared.difference.Difference.{Difference}
use Rattle.cli_record.specs.Differences.{AreDifferences}
use Rattle.cli_record.specs.RecordText.{difference_line, unmade_line, whole_line}
use Rattle.cli_record.specs.WholeLines.{IsCut}

-- where tables differ, at the names of a building, from those that deliveries leave behind earlier ones
abbrev pub Differ : Building → (earlier deliveries : List Delivery) → Tables → List Difference → Type 0
Differ building earlier deliveries held found = AreDifferences building held (tables building (earlier ++ deliveries)) found

-- they differ nowhere from those that all deliveries but the last leave
abbrev pub LacksLast : Building → (earlier deliveries : List Delivery) → Tables → Type 0
LacksLast building earlier deliveries held = (before : List Delivery) × (last : Delivery) × (deliveries ≡ before ++ last ∷ [])
    × Differ building earlier before held []

-- where they differ from those of all deliveries, and whether they differ nowhere from those of all but the last
pub record AreFound (building : Building) (earlier deliveries : List Delivery) (held : Tables) (found : List Difference)
    (lacks_last : Bool) : Type 0 where
  pub differ : Differ building earlier deliveries held found
  pub lacks : lacks_last ≡ true → LacksLast building earlier deliveries held
  pub has : lacks_last ≡ false → LacksLast building earlier deliveries held → ⊥

-- The tables differ nowhere from those of all deliveries; or they do, and nowhere from those of all but the last; or they differ
-- from both, and where they differ from those of all is said.
abbrev pub IsCompared : Building → (earlier deliveries : List Delivery) → Tables → Status → List ℕ → Type 0
IsCompared building earlier deliveries held status text =
    (Differ building earlier deliveries held [] × (status ≡ Done) × (text ≡ whole_line (length deliveries)))
    ⊎ (((Differ building earlier deliveries held [] → ⊥) × LacksLast building earlier deliveries held
    × (status ≡ Done) × (text ≡ unmade_line (length deliveries)))
    ⊎ ((Differ building earlier deliveries held [] → ⊥) × (LacksLast building earlier deliveries held → ⊥)
    × ((found : List Difference) × Differ building earlier deliveries held found × (status ≡ Fault)
    × (text ≡ flat_map difference_line found))))

-- what may be said of a record of so many deliveries: that the tables are theirs, or theirs without the last, or where they differ
abbrev pub IsVerdict : ℕ → List ℕ → Type 0
IsVerdict count text = (text ≡ whole_line count) ⊎ ((text ≡ unmade_line count)
    ⊎ ((found : List Difference) × (text ≡ flat_map difference_line found)))

-- ---- the run

-- whatever a call may open, if it is a reader, it has these bytes left
abbrev pub HasLeft : {R E : Type 0} → (Result R E → Type 0) → (R → Option (List ℕ)) → List ℕ → Type 0
HasLeft {R} {E} may_open left bytes = (opened : Result R E) → may_open opened → IfOk opened (λ reader. left reader ≡ Some bytes)

-- whatever a call may find, if it is a store, it is such a one
abbrev pub Finds : {S : Type 0} → (Result (Option S) OpenFault → Type 0) → (S → Type 0) → Type 0
Finds {S} may_find IsSuch = (found : Result (Option S) OpenFault) → may_find found → IfOk found (λ store. IfSome store IsSuch)

-- the deliveries of a record: up to its last line end each line tells something, but for the empty ones
pub record Lists (building : Building) (bytes : List ℕ) (deliveries : List Delivery) : Type 0 where
  pub whole : List ℕ
  pub cut : IsCut bytes whole
  pub reported : List ParsedLine
  pub parsed_is : parsed_by building (lines_of whole) ≡ Some reported
  pub are : deliveries ≡ deliveries_in reported

-- The file is a building, the record lists deliveries for it, and the text is what is said of these, behind those that the
-- base has the tables of, and of the tables that the store held when it was found.
pub record IsComparison {S : Type 0} (standing : S → Standing) (may_find : Result (Option S) OpenFault → Type 0)
    (base : Option MemStore) (file list : List ℕ) (status : Status) (text : List ℕ) (left : S) : Type 0 where
  pub building : Building
  pub building_is : building_of file ≡ Ok (contents_of building)
  pub deliveries : List Delivery
  pub lists : Lists building list deliveries
  pub verdict : IsVerdict (length deliveries) text
  pub compared : (tables : Tables) → Finds may_find (λ store. (standing store).content.tables ≡ tables)
      → (standing left).is_honest → (earlier : List Delivery) → BeginsOn standing_of building earlier base
      → IsCompared building earlier deliveries tables status text

-- and the text was printed
abbrev pub IsRecordChecked : {S : Type 0} → (S → Standing) → (Result (Option S) OpenFault → Type 0) → Option MemStore
    → (file list : List ℕ) → Status → S → Option (List ℕ) → Option (List ℕ) → Type 0
IsRecordChecked standing may_find base file list status left old new =
    (text : List ℕ) × IsComparison standing may_find base file list status text left × Appends old new text

-- nothing was printed, or a beginning of such a text
abbrev pub SaysNoMore : {S : Type 0} → (S → Standing) → (Result (Option S) OpenFault → Type 0) → Option MemStore
    → (file list : List ℕ) → Option (List ℕ) → Option (List ℕ) → Type 0
SaysNoMore {S} standing may_find base file list old new = Keeps old new ⊎ ((status : Status) × (text : List ℕ) × (left : S)
    × IsComparison standing may_find base file list status text left × AppendsStart old new text)
