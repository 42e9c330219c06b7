-- Items that are put together, into rows that follow one another.
use Rattle.std.specs.Prelude.{◌≡◌, ℤ, pos, Option, Some, List, [], ◌∷◌, map}
use Rattle.points.specs.Name.{IsName}
use Rattle.sqlite_rules.specs.Lists.{Has}
use Rattle.sqlite_value.specs.declared.value.Value.TheVariants.{Int, Text}
use Rattle.sqlite_value.specs.Order.{Row, column}
use Rattle.store.specs.declared.change.PlaceValue.{PlaceValue}
use Rattle.store.specs.declared.change.ShownValue.{ShownValue}

-- The rows of an answer show the keys of these items, one after the other, and each item is such.
pub record AreOf {Item : Type 0} (shown : Row → Row) (key : Item → Row) (Is : Item → Type 0) (rows : List Row) (items : List Item)
    : Type 0 where
  pub keys : map shown rows ≡ map key items
  pub each : (item : Item) → Has items item → Is item

-- ---- places

-- the first two cells that an answer shows
abbrev pub place_shown : Row → Row
place_shown row = column row 0 ∷ column row 1 ∷ []

-- the cells of the key of an item
abbrev pub place_key : PlaceValue → Row
place_key item = Text item.point ∷ Int (pos item.priority) ∷ []

abbrev pub PlaceTakes : ℤ → PlaceValue → Type 0
PlaceTakes value item = IsName item.point × (item.value ≡ Some value)

-- ---- what is shown

abbrev pub schedule_shown : Row → Row
schedule_shown row = column row 0 ∷ []

abbrev pub schedule_key : ShownValue → Row
schedule_key item = Text item.schedule ∷ []

abbrev pub ScheduleTakes : Option ℤ → ShownValue → Type 0
ScheduleTakes value item = IsName item.schedule × (item.shown ≡ Some value)
