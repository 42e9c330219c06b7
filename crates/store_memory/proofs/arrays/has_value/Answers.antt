use Rattle.std.proofs.Common.{◌≡◌, ◌∙◌, ◌≤◌, ℕ, true, false, IsSome, None, is_some, sym, ap, refl, arith, inl, inr}
use Rattle.std.specs.FinMap.{get, get-empty, len, len-empty, empty, empty_of_len, same_map, nat_cmp-IsAntisymmetric}
use Rattle.std.specs.Ordering.{nat_cmp}
use Rattle.std.specs.Prelude.{◌==◌, ℤ}
use Rattle.std.proofs.lemmas.Cmp.{nat_cmp_total}
use Rattle.std.proofs.lemmas.Bool.{cases_Bool, cases_order, false≢true}
use Rattle.std.proofs.lemmas.Bool.Decides.{Decides-eqb}
use Rattle.points.specs.PriorityArray.{Places, HasSixteenPlaces}
use Rattle.store_memory.specs.Held.{stands_point}
use Rattle.store_memory.proofs.arrays.has_value.Goals as goal

has_some : (places : Places) (p : ℕ) → IsSome (get places p) → true ≡ stands_point places
has_some places p here =
    elim (cases_Bool (len places == 0)) [
      | inl none ↦
          let empty_here : places ≡ empty = empty_of_len places ((Decides-eqb (len places) 0).0 none) in
          absurd (false≢true (ap is_some (sym (ap (λ (m : Places). get m p) empty_here ∙ get-empty nat_cmp p)) ∙ here))
      | inr some ↦ rw some refl
    ]

-- without a value at any priority, nothing stands
has_none : (places : Places) → HasSixteenPlaces places → ((p : ℕ) → 1 ≤ p → p ≤ 16 → get places p ≡ None) → false ≡ stands_point places
has_none places sixteen none =
    let at : (p : ℕ) → get places p ≡ get (empty {X = ℤ} {R = nat_cmp}) p =
    λ p. (elim (cases_order p 0) [
      | inl first ↦ ap (get places) first ∙ sixteen.above
      | inr apart ↦ elim (cases_order p 16) [
        | inl last ↦ none p (omega arith) (omega arith)
        | inr either ↦ elim either [
          | inl below ↦ none p (omega arith) (omega arith)
          | inr above ↦ sixteen.below p above
        ]
      ]
    ]) ∙ sym (get-empty nat_cmp p) in
    let e : places ≡ empty = same_map nat_cmp_total nat_cmp-IsAntisymmetric places empty at in
    rw e (rw (len-empty nat_cmp ℤ) refl)

pub returns-then-is_some : goal.returns-then-is_some
returns-then-is_some c = has_some c.args.array.now c.loop-priority.priority (ap is_some
    (sym c.value_at.ensures.value) ∙ sym c.is_some.ensures ∙ c.if-is_some.true)

pub returns : goal.returns
returns c =
    has_none c.args.array.now (c.loop-priority.invariant.places (omega arith))
    (λ p least most. c.loop-priority.invariant.none p least (omega arith))
