-- Steps of which the first that gives nothing ends the whole.
use Rattle.std.specs.Prelude.{Bool, Option, Some, None, if◌then◌else◌, option_and_then}

infixl 10 ◌>>=◌
abbrev pub ◌>>=◌ : {A B : Type 0} → Option A → (A → Option B) → Option B
o >>= f = option_and_then f o

-- the value, where the test holds
abbrev pub where_holds : {A : Type 0} → Bool → A → Option A
where_holds test value = if test then Some value else None
