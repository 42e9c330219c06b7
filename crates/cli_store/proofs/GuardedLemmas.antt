-- A run beside a record, over a store that is its own, or that it only read.
use Rattle.std.proofs.Common.{◌≡◌, ◌∙◌, ℕ, Bool, List, Option, Some, None, sym, Result, Ok, Err, IfErr, IsErrAnd, inl, inr}
use Rattle.building.specs.Building.{Building, contents_of}
use Rattle.building.specs.BuildingFile.{building_of}
use Rattle.cli_record.specs.Beside.{OpensBeside, ReadsBeside}
use Rattle.cli_record.specs.declared.difference.Difference.{Difference}
use Rattle.store.specs.declared.open_fault.OpenFault.{OpenFault}
use Rattle.store.specs.Standing.{Standing}
use Rattle.store_memory.specs.declared.mem_store.MemStore.{MemStore}
use Rattle.cli_store.specs.Guarded.{IsGuarded}
use Rattle.cli_store.specs.Otherwise.{SaysOtherwise, Tells}

module _ {S : Type 0} (standing : S → Standing) (may_open : Result S OpenFault → Type 0) (is_missing : Bool) (building : Building)
    (base : Option MemStore) (may_have : List ℕ → Type 0) where
  -- it began over the store of a desk that was opened beside the record
  pub began-own : (file list : List ℕ) (began left : S) (otherwise : Option Difference)
      → OpensBeside standing may_open is_missing building base may_have otherwise (standing began)
      → may_have list → building_of file ≡ Ok (contents_of building) → IsGuarded standing may_open is_missing file base list left
  began-own file list began left otherwise beside has is = record {
    opened = beside.reads.opened;
    is_opened = beside.reads.is_opened;
    made = λ missing.
        let (no_base, none) = beside.reads.made missing in
        record { building = building; building_is = is; no_base = no_base; none = none list has };
    guards = inr (
      began,
      beside.reads.still,
      λ honest. record {
        building = building;
        building_is = is;
        is = λ earlier begins. beside.own honest earlier begins list has;
      },
    );
  }

  -- what the record makes otherwise was told then
  pub began-telling : (file list : List ℕ) (began : S) (old new : Option (List ℕ)) (otherwise : Option Difference) → Tells otherwise old new
      → OpensBeside standing may_open is_missing building base may_have otherwise (standing began)
      → may_have list → building_of file ≡ Ok (contents_of building) → SaysOtherwise standing may_open file base list old new
  began-telling file list began old new otherwise told beside has is = record {
    building = building;
    building_is = is;
    opened = beside.reads.opened;
    is_opened = beside.reads.is_opened;
    began = began;
    still = beside.reads.still;
    otherwise = otherwise;
    is = λ honest earlier begins. beside.told honest earlier begins list has;
    told = told;
  }

  -- it began nothing
  pub only-read : (file list : List ℕ) (left : S) → ReadsBeside standing may_open is_missing building base may_have (standing left)
      → may_have list → building_of file ≡ Ok (contents_of building) → IsGuarded standing may_open is_missing file base list left
  only-read file list left reads has is = record {
    opened = reads.opened;
    is_opened = reads.is_opened;
    made = λ missing.
        let (no_base, none) = reads.made missing in
        record { building = building; building_is = is; no_base = no_base; none = none list has };
    guards = inl reads.still;
  }

-- what holds of each fault that `?` may have passed on holds of the one that it did
pub passed-on : {A E : Type 0} {P Q : E → Type 0} (r : Result A E) → IsErrAnd r P → ((e : E) → P e → Q e) → IfErr r Q
passed-on (Ok a) is follows = tt
passed-on (Err e) is follows = follows e is

-- a run that ended before it opened a store has none
pub none-left : {S : Type 0} (store : Option S) (left : S) → store ≡ None → store ≡ Some left → ⊥
none-left store left none some = let same : Some left ≡ None = sym some ∙ none in cc
