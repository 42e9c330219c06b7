-- What is known of a table.
use Rattle.std.specs.Prelude.{◌≡◌, Bool, false, Option, Some}
use Rattle.points.specs.Texts.{Text}

-- where a value is known under a name, it is that of the table, and the rows of the name can stand
abbrev pub Knows : {V : Type 0} → (Text → Option V) → (Text → V → Type 0) → (Text → Bool) → Type 0
Knows {V} known IsValue cannot_stand =
    (name : Text) (value : V) → known name ≡ Some value → IsValue name value × (cannot_stand name ≡ false)

-- the value of a table under a name
abbrev pub Has : {V : Type 0} → (Text → V) → Text → V → Type 0
Has table name value = table name ≡ value
