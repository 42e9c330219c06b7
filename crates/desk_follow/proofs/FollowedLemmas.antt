-- What is held of a point that the building has.
use Rattle.std.proofs.Common.{◌≡◌, ◌∙◌, ℕ, ℤ, Bool, List, [], ◌∷◌, ◌++◌, Option, Some, Result, Ok, Err, IfOk, IfSome, ap, subst, inl, inr}
use Rattle.std.proofs.lemmas.Bool.{cases_Bool}
use Rattle.std.specs.List.{All, find}
use Rattle.std.proofs.lemmas.List.Elements.{All-head, All-tail}
use Rattle.building.specs.Building.{Building}
use Rattle.deliveries.specs.declared.delivery.Delivery.{Delivery}
use Rattle.deliveries.specs.Delivered.{Holds}
use Rattle.deliveries.specs.Events.{machine}
use Rattle.deliveries.specs.Tables.{tables}
use Rattle.desk_views.specs.Views.{point_view}
use Rattle.desk_why.specs.Authors.{held_of, places_of}
use Rattle.desk_why.specs.declared.author.Held.{Held}
use Rattle.desk_why.specs.AuthorsTable.{AreHeld, IsHeld}
use Rattle.desk_why.specs.NextChanges.{next_changes}
use Rattle.desk_why.specs.declared.authors.Authors.{Authors}
use Rattle.desk_why.specs.declared.walking.PointAtEnd.{PointAtEnd}
use Rattle.points.specs.PriorityArray.{present_of}
use Rattle.points.specs.Rights.{point_named}
use Rattle.points.specs.declared.point.Point.{Point}
use Rattle.store.specs.Standing.{Content, Standing}
use Rattle.desk_follow.specs.Followed.{IsWhy, point_text}

found-holds : {A : Type 0} (P : A → Type 0) (test : A → Bool) (xs : List A) → All P xs → IfSome (find test xs) P
found-holds P test [] all = tt
found-holds P test (x ∷ xs) all = elim (cases_Bool (test x)) [
  | inl passes ↦ rw passes (All-head P x xs all)
  | inr fails ↦ rw fails (found-holds P test xs (All-tail P x xs all))
]

pub IsHeld-named : (b : Building) (earlier deliveries : List Delivery) (authors : Authors) (point : Point)
    → point_named b.points point.name ≡ Some point → AreHeld b earlier deliveries authors → IsHeld b earlier deliveries authors point.name
IsHeld-named b earlier deliveries authors point named held =
    subst (λ found. IfSome found (λ (p : Point). IsHeld b earlier deliveries authors p.name)) named
    (found-holds (λ (p : Point). IsHeld b earlier deliveries authors p.name) _ b.points held)

pub why-is : {E : Type 0} (b : Building) (earlier deliveries : List Delivery) (point : Point) (result : Result PointAtEnd E)
    → IfOk result (λ now. (now.present, now.priority)
    ≡ present_of ((machine b (earlier ++ deliveries)).places point.name) point.relinquish_default)
    → IfOk result (λ now. now.places.items ≡ places_of b earlier deliveries point.name)
    → IfOk result (λ now. now.next.items ≡ next_changes b (earlier ++ deliveries) point.name)
    → IfOk result (IsWhy b earlier deliveries point)
why-is b earlier deliveries point (Ok now) present places next = record { present = present; places = places; next = next }
why-is b earlier deliveries point (Err fault) present places next = tt

pub last-held : (b : Building) (all : List Delivery) (store : Standing) → Holds b all store
    → store.content.tables.last_tick ≡ (machine b all).last_tick
unfolding tables
last-held b all store held = ap (λ (content : Content). content.tables.last_tick) held

pub point-text : (b : Building) (earlier deliveries : List Delivery) (point : Point) (present : ℤ) (priority : ℕ) (held : Option Held)
    → (present, priority) ≡ present_of ((machine b (earlier ++ deliveries)).places point.name) point.relinquish_default
    → held ≡ held_of b earlier deliveries point.name priority
    → point_view b point.name present priority held ≡ point_text b earlier deliveries point
point-text b earlier deliveries point present priority held is by =
    ap (point_view b point.name present priority) by
    ∙ ap (λ (shown : ℤ × ℕ). point_view b point.name shown.0 shown.1 (held_of b earlier deliveries point.name shown.1)) is
