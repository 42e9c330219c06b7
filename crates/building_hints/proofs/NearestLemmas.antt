-- One pass over the calendars finds the nearest name.
use Rattle.std.proofs.Common.{◌≡◌, ◌∙◌, ℕ, suc, ◌+◌, ◌<◌, ◌≤◌, true, false, nat_lt, List, [], ◌∷◌, length, drop, get_or, Option, Some, None, refl, sym, ap, arith, add-one, drop-cons}
use Rattle.std.proofs.lemmas.Bool.Decides.{nat_tests}
use Rattle.std.proofs.lemmas.List.{drop_all}
use Rattle.points.specs.Texts.{Text}
use Rattle.sched.proofs.ChosenLemmas.{Settles, best_from, kept}
use Rattle.building.specs.declared.named_calendar.NamedCalendar.{NamedCalendar}
use Rattle.building_hints.specs.ListHints.{distance, is_nearer, nearer_first}

onward : (q b z : ℕ) → nat_lt b q ≡ true → nat_lt z b ≡ true → nat_lt z q ≡ true
onward q b z h k = grind (arith, nat_tests)

past : (b q z : ℕ) → nat_lt q b ≡ false → nat_lt z b ≡ true → nat_lt z q ≡ true
past b q z h k = grind (arith, nat_tests)

pub settles_nearer : (text : Text) → Settles (is_nearer text)
settles_nearer text = record {
  onward = λ q b z. onward (distance text q.name) (distance text b.name) (distance text z.name);
  past = λ b q z. past (distance text b.name) (distance text q.name) (distance text z.name);
}

module _ (text : Text) where
  abbrev pub best_after : Option NamedCalendar → List NamedCalendar → Option NamedCalendar
  best_after best list = best_from (λ _. true) (is_nearer text) best list

  kept-nearer : (best : Option NamedCalendar) (x : NamedCalendar) → kept (λ _. true) (is_nearer text) best x ≡ nearer_first text best x
  kept-nearer None x = refl
  kept-nearer (Some best) x = refl

  pub best-step : (list : List NamedCalendar) (i : ℕ) (x : NamedCalendar) → i < length list → x ≡ get_or list i x
      → (best next : Option NamedCalendar) → next ≡ nearer_first text best x
      → best_after best (drop i list) ≡ best_after None list → best_after next (drop (i + 1) list) ≡ best_after None list
  best-step list i x within is best next step so_far =
      let cut : drop i list ≡ x ∷ drop (suc i) list = drop-cons list i x within ∙ ap (λ y. y ∷ drop (suc i) list) (sym is) in
      let after : best_after (kept (λ _. true) (is_nearer text) best x) (drop (suc i) list) ≡ best_after None list = rw cut at so_far in
      rw add-one (ap (λ b. best_after b (drop (suc i) list)) (step ∙ sym (kept-nearer best x)) ∙ after)

  pub best-last : (list : List NamedCalendar) (i : ℕ) → length list ≤ i → (best : Option NamedCalendar)
      → best_after best (drop i list) ≡ best_after None list → best ≡ best_after None list
  best-last list i ended best is = let none : drop i list ≡ [] = drop_all i list ended in rw none at is
