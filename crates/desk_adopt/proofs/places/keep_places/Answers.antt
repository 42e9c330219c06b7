use Rattle.std.proofs.Common.{◌≡◌, ◌∙◌, ◌++◌, ℕ, List, [], ◌∷◌, Option, ap, arith, inl, inr, sym, subst, is_some, true, false}
use Rattle.std.specs.FinMap.{get}
use Rattle.std.specs.List.{All}
use Rattle.std.specs.Prelude.{ℤ}
use Rattle.std.proofs.lemmas.Bool.{cases_order}
use Rattle.std.proofs.lemmas.List.Elements.{All-push}
use Rattle.desk_adopt.specs.Adopted.{kept_value, no_places}
use Rattle.store_copy.specs.Named.{or_else}
use Rattle.desk_adopt.proofs.PlaceLemmas.{first-some, none-first, put-here, same-apart, same-elsewhere}
use Rattle.store.specs.Change.{IsPlace, with_each, with_place}
use Rattle.store.specs.declared.change.PlaceValue.{PlaceValue}
use Rattle.points.specs.Texts.{Text}
use Rattle.desk_adopt.proofs.places.keep_places.Goals.{then-is_some+in_ok-push, else-is_some}
use Rattle.desk_adopt.proofs.places.keep_places.Goals as goal

pub loop-priority-preserved : goal.loop-priority-preserved
loop-priority-preserved c =
    let so_far = c.loop-priority.invariant in
    let prio = c.loop-priority.priority in
    let building = c.args.building.now in
    let point = c.args.point.now in
    let array = c.args.array.now in
    let value = c.kept_value-value.result in
    let before = c.loop-priority.places.items in
    let first = λ (q : Text) (p : ℕ). get (with_each with_place c.args.places.now.items no_places q) p in
    let is : value ≡ kept_value building point prio (get array prio) =
    c.kept_value-value.ensures ∙ ap (kept_value building point prio) c.value_at.ensures.value in
    let kept = λ (q : Text) (p : ℕ). or_else (kept_value building point p (get array p)) (first q p) in
    elim c.if-is_some.branch [
      | then-is_some+in_ok-push w ↦
          let item : PlaceValue = record { point = point; priority = prio; value = value } in
          let now : c.if-is_some.places.items ≡ before ++ item ∷ [] = ap (λ v. v.items) w.places-is ∙ w.in_ok-push.ensures.items in
          let at = λ (q : Text) (p : ℕ). ap (λ (list : List PlaceValue). get (with_each with_place list no_places q) p) now in
          let some : is_some value ≡ true = sym c.is_some.ensures ∙ w.if-is_some.true in
          record {
            done = λ q p same least below. at q p ∙ elim (cases_order p prio) [
              | inl here ↦
                  ap (λ n. get (with_each with_place (before ++ item ∷ []) no_places q) n) here
                  ∙ put-here before item q same ∙ sym (first-some value (first q prio) some)
                  ∙ ap (λ (o : Option ℤ). or_else o (first q prio)) is ∙ sym (ap (kept q) here)
              | inr either ↦ elim either [
                | inl lower ↦
                    same-apart before item q p (λ e. omega (arith, lower, e)) ∙ so_far.done q p same least lower
                | inr higher ↦ absurd (omega (arith, below, higher))
              ]
            ];
            first = λ q. at q 0 ∙ same-apart before item q 0 (λ e. omega (arith, e)) ∙ so_far.first q;
            left = λ q p above. at q p ∙ same-apart before item q p (λ e. omega (arith, above, e)) ∙ so_far.left q p (omega (arith, above));
            elsewhere = λ q p other. at q p ∙ same-elsewhere before item q p other ∙ so_far.elsewhere q p other;
            sixteen = λ past. c.value_at.ensures.places;
            are_places = λ all. subst (All IsPlace) (sym now) (All-push IsPlace before item (so_far.are_places all) (record {
              at_least_1 = omega arith;
              at_most_16 = omega arith;
            }));
          }
      | else-is_some w ↦
          let now : c.if-is_some.places.items ≡ before = ap (λ v. v.items) w.places-is in
          let at = λ (q : Text) (p : ℕ). ap (λ (list : List PlaceValue). get (with_each with_place list no_places q) p) now in
          let none : is_some value ≡ false = sym c.is_some.ensures ∙ w.if-is_some.false in
          record {
            done = λ q p same least below. at q p ∙ elim (cases_order p prio) [
              | inl here ↦
                  so_far.left q p (omega (arith, here)) ∙ ap (first q) here ∙ sym (none-first value (first q prio) none)
                  ∙ ap (λ (o : Option ℤ). or_else o (first q prio)) is ∙ sym (ap (kept q) here)
              | inr either ↦ elim either [
                | inl lower ↦ so_far.done q p same least lower
                | inr higher ↦ absurd (omega (arith, below, higher))
              ]
            ];
            first = λ q. at q 0 ∙ so_far.first q;
            left = λ q p above. at q p ∙ so_far.left q p (omega (arith, above));
            elsewhere = λ q p other. at q p ∙ so_far.elsewhere q p other;
            sixteen = λ past. c.value_at.ensures.places;
            are_places = λ all. subst (All IsPlace) (sym now) (so_far.are_places all);
          }
    ]
