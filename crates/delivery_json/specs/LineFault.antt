-- What a step over a line of deliveries answers.
use Rattle.std.specs.Prelude.{◌≡◌, Option, Some, None, Result, Ok, Err}
use Rattle.store.specs.declared.StoreFault.TheVariants.{NoMemory}
use Rattle.delivery_json.specs.declared.line_fault.LineFault.{LineFault}
use Rattle.delivery_json.specs.declared.line_fault.LineFault.TheVariants.{NotDelivery, NotDone}

-- the answer is what is meant, where something is, and a refusal where nothing is; memory may be
-- refused at any time
abbrev pub Tells : {A : Type 0} → Option A → Result A LineFault → Type 0
Tells reported (Ok value) = reported ≡ Some value
Tells reported (Err NotDelivery) = reported ≡ None
Tells reported (Err (NotDone fault)) = fault ≡ NoMemory
