-- Steps of which the first fault ends the whole.
use Rattle.std.specs.Prelude.{Bool, Option, Some, None, Result, Ok, Err, if◌then◌else◌}

infixl 10 ◌>>=◌
abbrev pub ◌>>=◌ : {A B E : Type 0} → Result A E → (A → Result B E) → Result B E
Ok value >>= next = next value
Err fault >>= next = Err fault

-- the value, or the fault where there is none
abbrev pub or_fault : {A E : Type 0} → E → Option A → Result A E
or_fault fault None = Err fault
or_fault fault (Some value) = Ok value

-- the value where the test holds, else the fault
abbrev pub where_holds : {A E : Type 0} → Bool → E → A → Result A E
where_holds test fault value = if test then Ok value else Err fault

-- the result, with its value seen by a function
abbrev pub result_map : {A B E : Type 0} → (A → B) → Result A E → Result B E
result_map f (Ok value) = Ok (f value)
result_map f (Err fault) = Err fault
