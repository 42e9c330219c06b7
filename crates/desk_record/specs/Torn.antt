-- What may stand after the last whole line of a record: a beginning of a line that was being written.
use Rattle.std.specs.Prelude.{ℕ, ◌==◌, Bool, ◌||◌, List, [], ◌∷◌, codes, take}
use Rattle.std.specs.Bool.{IsTrue}
use Rattle.std.specs.List.{list_any, starts_with}
use Rattle.building.specs.Building.{Building}
use Rattle.deliveries.specs.declared.delivery.Delivery.{Delivery}
use Rattle.delivery_json.specs.DeliveryText.{delivery_line}
use Rattle.delivery_json.specs.LineEnds.{IsLine}

-- one of the two begins the other
abbrev pub begin_alike : List ℕ → List ℕ → Bool
begin_alike head bytes = starts_with (λ a b. a == b) head bytes || starts_with (λ a b. a == b) bytes head

-- how the lines begin that are written, one of each kind: a command, a skip, a tick and an import
abbrev pub heads : List (List ℕ)
heads = codes "{\"number\":" ∷ codes "{\"panel\":\"" ∷ codes "{\"tick\":" ∷ codes "{\"import\":\"" ∷ []

-- bytes that are a beginning of such a line, as far as its beginning tells
abbrev pub may_be_torn : List ℕ → Bool
may_be_torn bytes = list_any (λ head. begin_alike head bytes) heads

-- what a stop may have left of a line that was being written
abbrev pub IsTorn : List ℕ → Type 0
IsTorn bytes = IsLine bytes × IsTrue (may_be_torn bytes)

-- of each delivery's line each beginning
abbrev pub EachBeginningMayBeTorn : Type 0
EachBeginningMayBeTorn =
    (building : Building) (delivery : Delivery) (count : ℕ) → IsTrue (may_be_torn (take count (delivery_line building delivery)))
