-- The order of the exceptions' priorities.
use Rattle.std.proofs.Common.{◌≡◌, ◌∙◌, ℕ, suc, ◌+◌, ◌<◌, ◌≤◌, Bool, true, false, nat_lt, if◌then◌else◌, List, [], ◌∷◌, length, drop, get_or, Option, Some, None}
use Rattle.std.proofs.Common.{refl, sym, ap, inl, inr, arith, add-one, drop-cons}
use Rattle.std.proofs.lemmas.Bool.{cases_Bool}
use Rattle.std.proofs.lemmas.List.{drop_all}
use Rattle.sched.specs.declared.exception.Exception.{Exception}
use Rattle.std.specs.Ordering.{is_gt, nat_cmp}
use Rattle.std.proofs.lemmas.Bool.Decides.{nat_tests}
use Rattle.sched.specs.Exceptions.{gives_way_to_lower, lower_first}
use Rattle.sched.proofs.ChosenLemmas.{Settles, best_from, kept}

onward : (q b z : ℕ) → nat_lt b q ≡ true → nat_lt z b ≡ true → nat_lt z q ≡ true
onward q b z h k = grind (arith, nat_tests)

past : (b q z : ℕ) → nat_lt q b ≡ false → nat_lt z b ≡ true → nat_lt z q ≡ true
past b q z h k = grind (arith, nat_tests)

pub settles_lower : Settles gives_way_to_lower
settles_lower = record {
  onward = λ q b z. onward q.event_priority b.event_priority z.event_priority;
  past = λ b q z. past b.event_priority q.event_priority z.event_priority;
}

pub lower-is_gt : (x y : ℕ) → nat_lt y x ≡ is_gt (nat_cmp x y)
lower-is_gt x y = grind (arith, nat_tests)

-- ---- one pass over the exceptions

module _ (passes : Exception → Bool) where
  abbrev best_after : Option Exception → List Exception → Option Exception
  best_after best list = best_from passes gives_way_to_lower best list

  kept-lower : (best : Option Exception) (x : Exception) → kept passes gives_way_to_lower best x ≡ (if passes x then lower_first best x else best)
  kept-lower None x = elim (cases_Bool (passes x)) [ inl speaks_now ↦ rw speaks_now refl | inr silent ↦ rw silent refl ]
  kept-lower (Some best) x = elim (cases_Bool (passes x)) [ inl speaks_now ↦ rw speaks_now refl | inr silent ↦ rw silent refl ]

  pub best-step : (list : List Exception) (i : ℕ) (x : Exception) → i < length list → x ≡ get_or list i x → (best next : Option Exception)
      → next ≡ (if passes x then lower_first best x else best) → best_after best (drop i list) ≡ best_after None list
      → best_after next (drop (i + 1) list) ≡ best_after None list
  best-step list i x within is best next step so_far =
      let cut : drop i list ≡ x ∷ drop (suc i) list = drop-cons list i x within ∙ ap (λ y. y ∷ drop (suc i) list) (sym is) in
      let after : best_after (kept passes gives_way_to_lower best x) (drop (suc i) list) ≡ best_after None list = rw cut at so_far in
      rw add-one (ap (λ b. best_after b (drop (suc i) list)) (step ∙ sym (kept-lower best x)) ∙ after)

  pub best-last : (list : List Exception) (i : ℕ) → length list ≤ i → (best : Option Exception)
      → best_after best (drop i list) ≡ best_after None list → best ≡ best_after None list
  best-last list i ended best is = let none : drop i list ≡ [] = drop_all i list ended in rw none at is
