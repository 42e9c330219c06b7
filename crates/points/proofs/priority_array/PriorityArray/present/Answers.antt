use Rattle.std.proofs.Common.{rules, ◌≡◌, ◌<◌, ◌≤◌, ℕ, zero, suc, sym, ◌∙◌, arith, None, to_z, of_z, w64, ⊎_elim}
use Rattle.std.proofs.lemmas.Bool.{cases_lt}
use Rattle.std.specs.FinMap.{get}
use Rattle.points.specs.PriorityArray.{HasSixteenPlaces, Places}
use Rattle.points.proofs.PlacesLemmas.{present_of-least, present_of-none}
use Rattle.points.proofs.priority_array.PriorityArray.present.Goals as goal

none_above : (places : Places) (p : ℕ) → HasSixteenPlaces places → ((q : ℕ) → 1 ≤ q → q < p → get places q ≡ None)
    → (q : ℕ) → q < p → get places q ≡ None
none_above places p sixteen none zero h = sixteen.above
none_above places p sixteen none (suc q) h = none (suc q) (omega arith) h

none_at_all : (places : Places) (p : ℕ) → 16 < p → HasSixteenPlaces places → ((q : ℕ) → 1 ≤ q → q < p → get places q ≡ None)
    → (q : ℕ) → get places q ≡ None
none_at_all places p past sixteen none q =
    ⊎_elim (λ within. none_above places p sixteen none q within) (λ outside. sixteen.below q (omega arith)) (cases_lt q p)

pub returns-in-Some-clause-present : goal.returns-in-Some-clause-present
returns-in-Some-clause-present c =
    let e : to_z w64 (of_z w64 c.in-Some.value) ≡ c.in-Some.value = search rules in
    rw e (present_of-least c.args.self.now c.loop-priority.priority c.in-Some.value c.args.relinquish_default
    (sym c.value_at.ensures.value ∙ c.in-Some.is)
    (none_above c.args.self.now c.loop-priority.priority c.value_at.ensures.places c.loop-priority.invariant.none))

pub returns-clause-present : goal.returns-clause-present
returns-clause-present c =
    let e : to_z w64 (of_z w64 c.args.relinquish_default) ≡ c.args.relinquish_default = search rules in
    rw e (present_of-none c.args.self.now c.args.relinquish_default
    (none_at_all c.args.self.now c.loop-priority.priority c.loop-priority-test.false
    (c.loop-priority.invariant.places (omega arith)) c.loop-priority.invariant.none))
