-- The kinds of the points that a schedule writes to.
use Rattle.std.specs.Prelude.{ℕ, ℤ, Bool, true, List, Option, Some, None, option_map}
use Rattle.std.specs.List.{filter_map, list_all}
use Rattle.points.specs.declared.Kind.{Kind}
use Rattle.points.specs.declared.Point.{Point}
use Rattle.points.specs.Kind.{lies_in}
use Rattle.points.specs.Rights.{point_named}

abbrev pub kind_of : List Point → List ℕ → Option Kind
kind_of points target = option_map (λ point. point.kind) (point_named points target)

-- the kinds of the points of these names
abbrev pub kinds_of : List Point → List (List ℕ) → List Kind
kinds_of points targets = filter_map (kind_of points) targets

-- a value lies in each of the kinds; NULL does
abbrev pub lies_in_all : List Kind → Option ℤ → Bool
lies_in_all kinds None = true
lies_in_all kinds (Some value) = list_all (λ kind. lies_in kind value) kinds
