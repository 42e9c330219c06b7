-- Where a record begins, in the table of authors.
use Rattle.std.proofs.Common.{◌≡◌, ℕ, Bool, true, ◌||◌, ◌+◌, ◌<◌, cond, List, [], get_or, length, take, None, sym, ap, ◌∙◌, refl}
use Rattle.std.specs.List.{list_any}
use Rattle.std.specs.Str.{bytes_eq}
use Rattle.std.proofs.lemmas.List.Folds.{list_any_at, list_any_more}
use Rattle.std.proofs.lemmas.Slice.Eq.{bytes_eq-Decides}
use Rattle.building.specs.Building.{Building}
use Rattle.deliveries.specs.declared.delivery.Delivery.{Delivery}
use Rattle.deliveries.specs.Delivered.{Holds}
use Rattle.points.specs.declared.point.Point.{Point}
use Rattle.points.specs.PriorityArray.{Places}
use Rattle.points.specs.Texts.{Text}
use Rattle.store.specs.Standing.{Content, Standing}
use Rattle.desk_why.specs.declared.authors.Authors.{Authors}
use Rattle.desk_why.specs.Authors.{held_before}
use Rattle.desk_why.specs.AuthorsTable.{AreHeld, IsHeld}
use Rattle.desk_why.specs.Steps.{HaveBegun}
use Rattle.desk_why.proofs.EventLemmas.{held_of-none, tables-places}

-- a point of a name is among these
abbrev pub is_named : List Point → Text → Bool
is_named points name = list_any (λ (point : Point). bytes_eq point.name name) points

pub same_text : (text : Text) → bytes_eq text text ≡ true
same_text text = (bytes_eq-Decides text text).1 refl

-- one point more
pub begun-more : (places : Text → Places) (points : List Point) (at : ℕ) (p : Point) → at < length points → p ≡ get_or points at p
    → (authors : Authors) → HaveBegun places (λ name. is_named (take at points) name || bytes_eq p.name name) authors
    → HaveBegun places (is_named (take (at + 1) points)) authors
begun-more places points at p within is authors begun = λ point priority.
    begun point priority
    ∙ ap (λ (b : Bool). cond b (held_before (places point) priority) None)
    (sym (list_any_more (λ (q : Point). bytes_eq q.name point) points at p within
    ∙ ap (λ (q : Point). is_named (take at points) point || bytes_eq q.name point) (sym is)))

module _ (b : Building) (E : List Delivery) (s : Standing) (held : Holds b E s) (test : Text → Bool) (authors : Authors)
    (begun : HaveBegun s.content.tables.places test authors) where
  pub IsHeld-begun : (point : Text) → test point ≡ true → IsHeld b E [] authors point
  IsHeld-begun point here = λ priority.
      begun point priority
      ∙ (ap (λ (yes : Bool). cond yes (held_before (s.content.tables.places point) priority) None) here
      ∙ (ap (λ (content : Content). held_before (content.tables.places point) priority) held
      ∙ (ap (λ (places : Text → Places). held_before (places point) priority) (tables-places b E) ∙ held_of-none b E point priority)))

  pub AreHeld-begun : test ≡ is_named b.points → AreHeld b E [] authors
  AreHeld-begun all = λ at d within.
      let name = (get_or b.points at d).name in
      IsHeld-begun name (ap (λ (named : Text → Bool). named name) all
      ∙ list_any_at (λ (point : Point). bytes_eq point.name name) b.points at d within (same_text name))
