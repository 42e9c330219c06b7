-- Of a file that is too long its first bytes tell so.
use Rattle.std.proofs.Common.{◌≡◌, ◌∙◌, ℕ, ◌<◌, true, false, List, [], ◌++◌, length, take, nat_le, Option, Some, IfSome, option_map, Ok, Err, refl, sym, ap, ap₂, subst, arith}
use Rattle.std.proofs.lemmas.Bool.{leb-false, leb-true}
use Rattle.std.proofs.lemmas.List.{length-take-le, take_all}
use Rattle.building.specs.BuildingFile.{Contents, building_of, longest_file, tree_of}
use Rattle.building.specs.TopTable.{top_location}
use Rattle.building.specs.declared.cause.Cause.TheVariants.{BeyondLimit}
use Rattle.building.specs.declared.key.Key.TheVariants as key
use Rattle.building.specs.FaultAt.{fault_at}

building_of-long : (xs : List ℕ) → nat_le (length xs) longest_file ≡ false
    → building_of xs ≡ Err (fault_at top_location key.File BeyondLimit)
unfolding building_of tree_of
building_of-long xs e = rw e refl

-- a building's file was read whole
pub whole_taken : (bytes : List ℕ) (c : Contents) → building_of (take 1_048_577 bytes) ≡ Ok c → take 1_048_577 bytes ≡ bytes
whole_taken bytes c e =
    elim (nat_le (length bytes) 1_048_577) as (λ t. nat_le (length bytes) 1_048_577 ≡ t → take 1_048_577 bytes ≡ bytes) [
      | true ↦ λ short. take_all 1_048_577 bytes (leb-true (length bytes) 1_048_577 short)
      | false ↦ λ long.
          let more : 1_048_577 < length bytes = leb-false (length bytes) 1_048_577 long in
          let full : length (take 1_048_577 bytes) ≡ 1_048_577 = length-take-le 1_048_577 bytes (omega arith) in
          let fault = building_of-long (take 1_048_577 bytes) (ap (λ n. nat_le n longest_file) full) in
          let bad : Err (fault_at top_location key.File BeyondLimit) ≡ Ok c = sym fault ∙ e in cc
    ] refl

pub building_of-taken : (bytes : List ℕ) (c : Contents) → building_of (take 1_048_577 bytes) ≡ Ok c → building_of bytes ≡ Ok c
building_of-taken bytes c e = ap building_of (sym (whole_taken bytes c e)) ∙ e

-- the bytes that are read where a reader gives its first
pub taken_bytes : {R : Type 0} (remaining : R → Option (List ℕ)) (limit : ℕ) (inner reader : R) (bytes start buf : List ℕ)
    → limit ≡ 1_048_577 → inner ≡ reader → start ≡ []
    → remaining reader ≡ Some bytes → IfSome (option_map (take limit) (remaining inner)) (λ xs. buf ≡ start ++ xs)
    → buf ≡ take 1_048_577 bytes
taken_bytes remaining limit inner reader bytes start buf limit_is inner_is start_is known read =
    let first = subst (λ r. IfSome (option_map (take limit) (remaining r)) (λ xs. buf ≡ start ++ xs)) inner_is read in
    let then : buf ≡ start ++ take limit bytes = subst (λ o. IfSome (option_map (take limit) o) (λ xs. buf ≡ start ++ xs)) known first in
    then ∙ ap₂ (λ s n. s ++ take n bytes) start_is limit_is
