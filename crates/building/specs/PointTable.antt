-- The point that a `[[point]]` table names.
use Rattle.std.specs.Prelude.{ℕ, ℤ, Bool, true, pos, neg_ℤ, int_le, ◌&&◌, List, [], ◌∷◌, Result, Ok, Err, codes, if◌then◌else◌}
use Rattle.std.specs.Str.{bytes_eq}
use Rattle.toml.specs.Data.{Members}
use Rattle.building.specs.declared.cause.Cause.TheVariants.{BeyondLimit, OutsideKind, WrongType}
use Rattle.building.specs.declared.file_fault.FileFault.{FileFault}
use Rattle.building.specs.declared.key.Key.{Key}
use Rattle.building.specs.declared.key.Key.TheVariants as key
use Rattle.building.specs.declared.location.Location.{Location}
use Rattle.building.specs.FaultAt.{fault_at}
use Rattle.points.specs.FaultSteps.{where_holds, ◌>>=◌}
use Rattle.points.specs.Kind.{is_between, lies_in}
use Rattle.points.specs.declared.Kind.{Kind}
use Rattle.points.specs.declared.Kind.TheVariants.{Analog, Binary, Multistate}
use Rattle.points.specs.declared.Point.{Point}
use Rattle.building.specs.Fields.{integer_at, lacks_keys, text_at}

-- a bound of an analog point, in hundredths
abbrev pub is_bound : ℤ → Bool
is_bound = is_between (neg_ℤ (pos 1_000_000_000)) (pos 1_000_000_000)

-- B13 where it is beyond its limits
abbrev pub bound_at : Location → Key → Members → Result ℤ FileFault
bound_at location key ms = integer_at location key ms
    >>= (λ value. where_holds (is_bound value) (fault_at location key BeyondLimit) value)

abbrev pub binary_at : Location → Members → Result Kind FileFault
binary_at location ms =
    lacks_keys location (key.States ∷ key.Low ∷ key.High ∷ []) ms >>= (λ _. Ok Binary)

abbrev pub multi_at : Location → Members → Result Kind FileFault
multi_at location ms = do
  number ← integer_at location key.States ms
  states ← where_holds (is_between (pos 1) (pos 1_000) number) (fault_at location key.States BeyondLimit) number
  alone ← lacks_keys location (key.Low ∷ key.High ∷ []) ms
  Ok (Multistate states)

abbrev pub analog_at : Location → Members → Result Kind FileFault
analog_at location ms = do
  alone ← lacks_keys location (key.States ∷ []) ms
  low ← bound_at location key.Low ms
  high ← bound_at location key.High ms
  where_holds (int_le low high) (fault_at location key.High OutsideKind) (Analog low high)

abbrev pub kind_named : Location → List ℕ → Members → Result Kind FileFault
kind_named location word ms =
    if bytes_eq word (codes "binary") then binary_at location ms
    else (if bytes_eq word (codes "multi") then multi_at location ms
    else (if bytes_eq word (codes "analog") then analog_at location ms
    else Err (fault_at location key.Kind WrongType)))

-- the kind with its limits; a key of another kind is B2 when it is met
unfoldable pub kind_at : Location → Members → Result Kind FileFault
kind_at location ms = text_at location key.Kind ms >>= (λ word. kind_named location word ms)

-- the point of a name: its kind, and a default of the kind
unfoldable pub point_in : Location → List ℕ → Members → Result Point FileFault
point_in location name ms = do
  kind ← kind_at location ms
  default ← integer_at location key.Default ms
  where_holds (lies_in kind default) (fault_at location key.Default OutsideKind)
      (record { name = name; kind = kind; relinquish_default = default })

-- ---- what holds of a point that was read

-- the limits of a kind
abbrev pub is_kind : Kind → Bool
is_kind Binary = true
is_kind (Multistate states) = is_between (pos 1) (pos 1_000) states
is_kind (Analog low high) = is_bound low && (is_bound high && int_le low high)

abbrev pub is_sound_point : Point → Bool
is_sound_point point = is_kind point.kind && lies_in point.kind point.relinquish_default
