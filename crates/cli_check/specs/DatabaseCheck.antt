-- What the check of a building file and a database beside it prints.
use Rattle.std.specs.Prelude.{◌≡◌, ℕ, List, [], ◌∷◌, ◌++◌, Option, Result, Ok, IfOk, IfSome}
use Rattle.std.specs.Io.KnownBytes.{Appends}
use Rattle.std.specs.List.{flat_map}
use Rattle.building.specs.Building.{Building, contents_of}
use Rattle.building.specs.BuildingFile.{Contents, building_of}
use Rattle.cli_common.specs.declared.status.Status.{Status}
use Rattle.cli_common.specs.declared.status.Status.TheVariants.{Done, Fault}
use Rattle.store.specs.declared.open_fault.OpenFault.{OpenFault}
use Rattle.store.specs.Standing.{Standing}
use Rattle.store.specs.Tables.{Tables}
use Rattle.desk_adopt.specs.declared.finding.Finding.{Finding}
use Rattle.desk_adopt.specs.declared.holdings.Holdings.{Holdings}
use Rattle.desk_adopt.specs.FindingLine.{holdings_line, line_of}
use Rattle.desk_adopt.specs.Surveyed.{IsSurvey}
use Rattle.cli_check.specs.FileCheck.{ok_line}

abbrev pub finding_line : Finding → List ℕ
finding_line finding = line_of finding ++ 10 ∷ []

-- what the building has, and what the tables hold
abbrev pub holdings_text : Contents → Holdings → List ℕ
holdings_text contents holdings = ok_line contents ++ (holdings_line holdings ++ 10 ∷ [])

-- a line for each finding, and where there is none what is there
abbrev pub survey_text : Contents → List Finding → Holdings → List ℕ
survey_text contents [] holdings = holdings_text contents holdings
survey_text contents (finding ∷ findings) holdings = flat_map finding_line (finding ∷ findings)

abbrev pub status_of : List Finding → Status
status_of [] = Done
status_of (finding ∷ findings) = Fault

-- what does not suit the building was printed, or that all does
pub record Tells (building : Building) (tables : Tables) (status : Status) (old new : Option (List ℕ)) : Type 0 where
  pub findings : List Finding
  pub holdings : Holdings
  pub survey : IsSurvey building tables findings holdings
  pub status_is : status ≡ status_of findings
  pub printed : Appends old new (survey_text (contents_of building) findings holdings)

-- whatever a call may find, if it is a store, it is such a one
abbrev pub Finds : {S : Type 0} → (Result (Option S) OpenFault → Type 0) → (S → Type 0) → Type 0
Finds {S} may_find IsSuch = (found : Result (Option S) OpenFault) → may_find found → IfOk found (λ store. IfSome store IsSuch)

-- The file is a building, and what was printed is of the tables that the store held when it was found.
pub record IsChecked {S : Type 0} (standing : S → Standing) (may_find : Result (Option S) OpenFault → Type 0)
    (file : List ℕ) (status : Status) (left : S) (old new : Option (List ℕ)) : Type 0 where
  pub building : Building
  pub building_is : building_of file ≡ Ok (contents_of building)
  pub reported : (tables : Tables) → Finds may_find (λ store. (standing store).content.tables ≡ tables)
      → (standing left).is_honest → Tells building tables status old new
