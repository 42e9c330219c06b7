-- What is said of why a point has its value.
use Rattle.std.proofs.Common.{◌≡◌, ◌∙◌, Bool, true, List, [], ◌∷◌, ◌++◌, Option, Some, Result, Ok, Err, IfOk, ap, subst, sym, inl, inr}
use Rattle.std.proofs.lemmas.Bool.{cases_Bool}
use Rattle.std.proofs.lemmas.Slice.Eq.{bytes_eq-Decides}
use Rattle.std.specs.List.{find}
use Rattle.std.specs.Str.{bytes_eq}
use Rattle.building.specs.Building.{Building}
use Rattle.deliveries.specs.declared.delivery.Delivery.{Delivery}
use Rattle.desk_follow.specs.Followed.{IsWhy}
use Rattle.desk_views.specs.Views.{why_view}
use Rattle.desk_why.specs.declared.walking.PointAtEnd.{PointAtEnd}
use Rattle.panel_http.specs.Response.{Said, Says, json}
use Rattle.panel_http.specs.declared.unanswered.Unanswered.{Unanswered}
use Rattle.panel_http.specs.declared.whole_response.Response.{Response}
use Rattle.points.specs.Rights.{point_named}
use Rattle.points.specs.Texts.{Text}
use Rattle.points.specs.declared.point.Point.{Point}
use Rattle.follow_http.specs.Seen.{why_said}

found-passes : {A : Type 0} (test : A → Bool) (xs : List A) (x : A) → find test xs ≡ Some x → test x ≡ true
found-passes test [] x e = absurd cc
found-passes test (y ∷ ys) x e = elim (cases_Bool (test y)) [
  | inl passes ↦ let same : Some y ≡ Some x = rw passes at e in let here : y ≡ x = cc in subst (λ w. test w ≡ true) here passes
  | inr fails ↦ found-passes test ys x (rw fails at e)
]

-- the point that is found has the name
pub named-again : (b : Building) (name : Text) (point : Point) → point_named b.points name ≡ Some point
    → point_named b.points point.name ≡ Some point
named-again b name point is = ap (point_named b.points)
    ((bytes_eq-Decides point.name name).0 (found-passes (λ (p : Point). bytes_eq p.name name) b.points point is)) ∙ is

pub why-says : (b : Building) (earlier deliveries : List Delivery) (name : Text) (point : Point) (now : PointAtEnd) (text : Text)
    (result : Result Response Unanswered) → point_named b.points name ≡ Some point → IsWhy b earlier deliveries point now
    → text ≡ why_view b point (now.present, now.priority) now.places.items now.next.items → IfOk result (Says (json 200 text))
    → IfOk result (λ response. (said : Said) × Says said response × (said ≡ why_said b earlier deliveries (point_named b.points name)))
why-says b earlier deliveries name point now text (Ok response) named is tells says = (
  json 200 text,
  says,
  ap (json 200) (tells ∙ (λ i. why_view b point (is.present i) (is.places i) (is.next i)))
      ∙ ap (why_said b earlier deliveries) (sym named),
)
why-says b earlier deliveries name point now text (Err unanswered) named is tells says = tt
