-- The members of an object, by `serde_json`'s own reading of it.
use Rattle.std.specs.Prelude.{ℕ, ℤ, List, [], ◌∷◌, Option}
use Rattle.serde_json.specs.Data.{Data}
use Rattle.serde_json.specs.Find.{as_object, get}
use Rattle.points.specs.Steps.{◌>>=◌, where_holds}
pub use Rattle.delivery_json.specs.Readings.{has_only, integer_in}

-- the integer of an object that has this key, and no other
unfoldable pub lone_integer : List ℕ → Data → Option ℤ
lone_integer key d = do
  ms ← as_object d
  number ← get key d >>= integer_in
  where_holds (has_only (key ∷ []) ms) number
