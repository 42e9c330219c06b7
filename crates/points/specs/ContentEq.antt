-- Equality of command contents: the same point, priority, and value or NULL.
use Rattle.std.specs.Prelude.{Bool, ◌&&◌}
use Rattle.std.specs.Option.{option_eq}
use Rattle.std.specs.Ordering.{int_eq}
use Rattle.std.specs.Str.{bytes_eq}
use Rattle.points.specs.declared.content.Content.{Content}

-- whether two contents are the same; `content_eq-Decides` proves that it says so
unfoldable pub content_eq : Content → Content → Bool
content_eq x y = bytes_eq x.point y.point && (int_eq x.priority y.priority && option_eq int_eq x.value y.value)
