-- What an adoption makes, and the text that it prints.
use Rattle.std.specs.Prelude.{◌≡◌, ℕ, List, [], ◌∷◌, ◌++◌, Option, Result, Ok, IfOk, IfSome, true, codes}
use Rattle.std.specs.List.{flat_map}
use Rattle.desk_adopt.specs.Adopted.{IsAdopted}
use Rattle.desk_adopt.specs.declared.renamed_name.RenamedName.{RenamedName}
use Rattle.desk_adopt.specs.declared.renaming.Renaming.{Renaming}
use Rattle.desk_adopt.specs.declared.unused_renaming.UnusedRenaming.{UnusedRenaming}
use Rattle.desk_adopt.specs.NoteLine.{line_of, unused_line_of}
use Rattle.desk_adopt.specs.Notes.{AreNotes}
use Rattle.building.specs.Building.{Building, contents_of}
use Rattle.building.specs.BuildingFile.{building_of}
use Rattle.desk.specs.Opening.{Suits}
use Rattle.store.specs.Standing.{Content, Standing, sound}
use Rattle.store.specs.Tables.{Tables, no_tables}
use Rattle.points.specs.Texts.{Text}
use Rattle.desk_adopt.specs.declared.finding.Finding.{Finding}
use Rattle.desk_adopt.specs.declared.holdings.Holdings.{Holdings}
use Rattle.desk_adopt.specs.FindingLine.{holdings_line, line_of as finding_line}
use Rattle.desk_adopt.specs.Surveyed.{IsSurvey}
use Rattle.cli_check.specs.declared.adoption_fault.FindFault.{FindFault}
use Rattle.cli_check.specs.declared.adoption_fault.MakeFault.{MakeFault}
use Rattle.cli_check.specs.Renamings.{AreRenamings}

abbrev pub renamed_line : RenamedName → List ℕ
renamed_line renamed = codes "renamed: " ++ (line_of renamed ++ 10 ∷ [])

abbrev pub left_line : Finding → List ℕ
left_line finding = codes "left: " ++ (finding_line finding ++ 10 ∷ [])

abbrev pub unused_line : UnusedRenaming → List ℕ
unused_line unused = codes "unused: " ++ (unused_line_of unused ++ 10 ∷ [])

-- a line for each thing that is noted, and one for what the new tables hold
abbrev pub adoption_text : List RenamedName → List Finding → List UnusedRenaming → Holdings → List ℕ
adoption_text renamed left unused holdings = flat_map renamed_line renamed ++ (flat_map left_line left
    ++ (flat_map unused_line unused ++ (holdings_line holdings ++ 10 ∷ [])))

-- what the building has in earlier tables is in the new ones, over which a desk of it opens; and the text tells what has
-- another name, what stays behind, which renamings count nowhere and what the new tables hold
pub record TakesAlong (building : Building) (renamings : List Renaming) (tables : Tables) (made : Content)
    (text : List ℕ) : Type 0 where
  pub is_sound : made.is_sound ≡ true
  pub adopted : IsAdopted building renamings tables made.tables
  pub suits : Suits building made.tables
  pub renamed : List RenamedName
  pub left : List Finding
  pub unused : List UnusedRenaming
  pub noted : AreNotes building renamings tables renamed left unused
  pub findings : List Finding
  pub holdings : Holdings
  pub survey : IsSurvey building made.tables findings holdings
  pub text_is : text ≡ adoption_text renamed left unused holdings

-- whatever a call may find, if it is a store, it is such a one
abbrev pub Finds : {S : Type 0} → (Result (Option S) FindFault → Type 0) → (S → Type 0) → Type 0
Finds {S} may_find IsSuch = (found : Result (Option S) FindFault) → may_find found → IfOk found (λ store. IfSome store IsSuch)

-- whatever a call may make, if it is a store, it is such a one
abbrev pub Makes : {T : Type 0} → (Result T MakeFault → Type 0) → (T → Type 0) → Type 0
Makes {T} may_make IsSuch = (made : Result T MakeFault) → may_make made → IfOk made IsSuch

-- The file is a building, the words are renamings, and of the tables that the store held when it was found all that the
-- building has was taken along into the store that was made empty.
pub record IsAdoption {S T : Type 0} (standing : S → Standing) (standing_made : T → Standing)
    (may_find : Result (Option S) FindFault → Type 0) (may_make : Result T MakeFault → Type 0)
    (file : List ℕ) (texts : List Text) (left : S) (made : T) (text : List ℕ) : Type 0 where
  pub building : Building
  pub building_is : building_of file ≡ Ok (contents_of building)
  pub renamings : List Renaming
  pub renamings_are : AreRenamings building texts renamings
  pub taken : (tables : Tables) → Finds may_find (λ store. (standing store).content.tables ≡ tables)
      → Makes may_make (λ store. (standing_made store).content ≡ sound no_tables)
      → (standing left).is_honest → (standing_made made).is_honest
      → TakesAlong building renamings tables (standing_made made).content text
