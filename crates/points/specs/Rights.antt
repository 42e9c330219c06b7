-- What a panel may write: six rules, of which the first that a command breaks refuses it.
use Rattle.std.specs.Prelude.{ℕ, Bool, false, not, ◌||◌, List, [], ◌∷◌, Option, Some, None, ℤ, pos, int_lt, find, is_some}
use Rattle.std.specs.Option.{option_map_or}
use Rattle.std.specs.Ordering.{int_eq}
use Rattle.std.specs.List.{list_any}
use Rattle.std.specs.Str.{bytes_eq}
use Rattle.points.specs.declared.kind.Kind.{Kind}
use Rattle.points.specs.declared.point.Point.{Point}
use Rattle.points.specs.declared.panel.Panel.{Panel}
use Rattle.points.specs.declared.content.Content.{Content}
use Rattle.points.specs.declared.rule.Rule.{Rule}
use Rattle.points.specs.declared.rule.Rule.TheVariants.{NoSuchPoint, NotGranted, NoSuchPriority, ReservedPriority, PriorityNotGranted, OutsideKind}
use Rattle.points.specs.Kind.{lies_in}

-- the first point of that name
abbrev pub point_named : List Point → List ℕ → Option Point
point_named points name = find (λ point. bytes_eq point.name name) points

abbrev pub is_granted : Panel → List ℕ → Bool
is_granted panel point = list_any (λ granted. bytes_eq granted point) panel.points

abbrev pub is_granted_at : Panel → ℤ → Bool
is_granted_at panel priority = list_any (λ granted. int_eq (pos granted) priority) panel.priorities

-- the places are 1 to 16
abbrev pub names_no_place : ℤ → Bool
names_no_place priority = int_lt priority (pos 1) || int_lt (pos 16) priority

-- every kind accepts NULL
abbrev pub is_outside : Kind → Option ℤ → Bool
is_outside kind None = false
is_outside kind (Some value) = not (lies_in kind value)

-- when a rule is against a content, each by itself
unfoldable pub breaks : List Point → Panel → Content → Rule → Bool
breaks points panel content NoSuchPoint = not (is_some (point_named points content.point))
breaks points panel content NotGranted = not (is_granted panel content.point)
breaks points panel content NoSuchPriority = names_no_place content.priority
breaks points panel content ReservedPriority = int_eq content.priority (pos 6)
breaks points panel content PriorityNotGranted = not (is_granted_at panel content.priority)
breaks points panel content OutsideKind =
    option_map_or (λ point. is_outside point.kind content.value) (point_named points content.point) false

-- the least rule against the content
unfoldable pub rule_of : List Point → Panel → Content → Option Rule
rule_of points panel content =
    find (breaks points panel content) (NoSuchPoint ∷ NotGranted ∷ NoSuchPriority ∷ ReservedPriority ∷ PriorityNotGranted
    ∷ OutsideKind ∷ [])
