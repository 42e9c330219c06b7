-- The test of two contents decides whether they are the same.
use Rattle.std.proofs.Common.{◌≡◌, Option, Some, None, ℤ, Decides, refl, ap}
use Rattle.std.specs.Str.{bytes_eq}
use Rattle.std.specs.Option.{option_eq}
use Rattle.std.specs.Ordering.{int_eq}
use Rattle.std.proofs.lemmas.Slice.Eq.{bytes_eq-Decides}
use Rattle.std.proofs.lemmas.Bool.Decides.{Decides-int_eq, Decides-and}
use Rattle.points.specs.declared.content.Content.{Content}
use Rattle.points.specs.ContentEq.{content_eq}

value_eq-Decides : (x y : Option ℤ) → Decides (option_eq int_eq x y) (x ≡ y)
value_eq-Decides None None = (λ _. refl, λ _. refl)
value_eq-Decides None (Some y) = (λ e. cc, λ e. cc)
value_eq-Decides (Some x) None = (λ e. cc, λ e. cc)
value_eq-Decides (Some x) (Some y) =
    (λ e. ap Some ((Decides-int_eq x y).0 e), λ e. let same : x ≡ y = cc in (Decides-int_eq x y).1 same)

pub content_eq-Decides : (x y : Content) → Decides (content_eq x y) (x ≡ y)
unfolding content_eq
content_eq-Decides x y =
    let parts = Decides-and (bytes_eq x.point y.point) _ (bytes_eq-Decides x.point y.point)
    (Decides-and (int_eq x.priority y.priority) _ (Decides-int_eq x.priority y.priority) (value_eq-Decides x.value y.value)) in (
      λ e i. record { point = (parts.0 e).0 i; priority = ((parts.0 e).1).0 i; value = ((parts.0 e).1).1 i },
      λ e. parts.1 (ap (λ (c : Content). c.point) e, (ap (λ (c : Content). c.priority) e, ap (λ (c : Content). c.value) e)),
    )
