-- The values of each kind of point: binary 0 and 1, multistate 1 to its states, analog low to high.
use Rattle.std.specs.Prelude.{Bool, ◌&&◌, ℤ, pos, int_le}
use Rattle.points.specs.declared.kind.Kind.{Kind}
use Rattle.points.specs.declared.kind.Kind.TheVariants.{Binary, Multistate, Analog}

-- a value from the first to the last
abbrev pub is_between : ℤ → ℤ → ℤ → Bool
is_between first last value = int_le first value && int_le value last

-- whether a value, other than NULL, lies in the kind
abbrev pub lies_in : Kind → ℤ → Bool
lies_in Binary value = is_between (pos 0) (pos 1) value
lies_in (Multistate states) value = is_between (pos 1) states value
lies_in (Analog low high) value = is_between low high value
