-- What is made of the lines of a record, whose last delivery is held back.
use Rattle.std.specs.Prelude.{◌≡◌, ◌++◌, ◌∷◌, ℕ, Bool, true, false, List, [], length, Option, Some, None, Result, IfOk}
use Rattle.std.specs.Option.{option_to_list}
use Rattle.building.specs.Building.{Building}
use Rattle.deliveries.specs.declared.delivery.Delivery.{Delivery}
use Rattle.deliveries.specs.Delivered.{Holds}
use Rattle.delivery_json.specs.LineEnds.{IsLine}
use Rattle.desk_cli.specs.ListLines.{Collects}
use Rattle.store.specs.Standing.{Standing}
use Rattle.cli_record.specs.RecordRun.{Lists}
use Rattle.cli_record.specs.WholeLines.{IsCut}

-- the bytes of a file that a call may find: of a reader what it has left, and none where there is no file
abbrev pub IsFound : {R : Type 0} → (R → Option (List ℕ)) → Option R → List ℕ → Type 0
IsFound left None bytes = bytes ≡ []
IsFound left (Some reader) bytes = left reader ≡ Some bytes

-- whatever a call may find, it has these bytes
abbrev pub MayHave : {R E : Type 0} → (Result (Option R) E → Type 0) → (R → Option (List ℕ)) → List ℕ → Type 0
MayHave {R} {E} may_find left bytes = (found : Result (Option R) E) → may_find found → IfOk found (λ reader. IsFound left reader bytes)

-- the first whole line of the bytes was read, and the bytes after its end are left; or no line of them is whole, and all
-- were read
abbrev pub TakesWhole : List ℕ → Bool → List ℕ → Option (List ℕ) → Type 0
TakesWhole bytes true line left = (rest : List ℕ) × (left ≡ Some rest) × (bytes ≡ line ++ 10 ∷ rest) × IsLine line
TakesWhole bytes false line left = IsLine bytes × (line ≡ bytes)

-- bytes whose last is a line end lose it; else none is whole, and they stay
abbrev pub CutsEnd : List ℕ → Bool → List ℕ → Type 0
CutsEnd bytes true line = bytes ≡ line ++ 10 ∷ []
CutsEnd bytes false line = ((before : List ℕ) → bytes ≡ before ++ 10 ∷ [] → ⊥) × (line ≡ bytes)

-- the store has the tables of what was made behind earlier deliveries; what is held back comes after it, and is there if anything
-- was made
pub record HoldsBack (building : Building) (earlier made : List Delivery) (last : Option Delivery) (store : Standing) : Type 0 where
  pub holds : Holds building (earlier ++ made) store
  pub none : last ≡ None → made ≡ []

-- what the lines tell was made, but for the last of it, which is held back
pub record Makes (building : Building) (earlier : List Delivery) (lines : List (List ℕ)) (last : Option Delivery) (store : Standing)
    : Type 0 where
  pub made : List Delivery
  pub collects : Collects building lines [] (made ++ option_to_list last)
  pub back : HoldsBack building earlier made last store

-- the same of the whole lines of a record of these bytes
pub record IsReplayed (building : Building) (earlier : List Delivery) (bytes : List ℕ) (last : Option Delivery) (store : Standing)
    : Type 0 where
  pub made : List Delivery
  pub lists : Lists building bytes (made ++ option_to_list last)
  pub back : HoldsBack building earlier made last store

-- so many bytes stand after the last line end
pub record LeavesTorn (bytes : List ℕ) (torn : ℕ) : Type 0 where
  pub whole : List ℕ
  pub cut : IsCut bytes whole
  pub counted : torn ≡ length cut.torn

-- the store has the tables of earlier deliveries with all behind them that the whole lines of a record of these bytes tell
pub record HoldsRecord (building : Building) (earlier : List Delivery) (bytes : List ℕ) (store : Standing) : Type 0 where
  pub deliveries : List Delivery
  pub lists : Lists building bytes deliveries
  pub holds : Holds building (earlier ++ deliveries) store
