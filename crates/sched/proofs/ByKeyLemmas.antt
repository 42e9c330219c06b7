-- What `min_by_key` finds after `filter`.
use Rattle.std.proofs.Common.{◌≡◌, Bool, true, false, List, [], ◌∷◌, Option, Some, None, map, refl, sym, ap, ◌∙◌, subst, inl, inr, Bor}
use Rattle.std.specs.declared.cmp.Ordering.{Ordering}
use Rattle.std.specs.declared.cmp.Ordering.TheVariants.{Less, Equal, Greater}
use Rattle.std.specs.Fn.{CalledAt}
use Rattle.std.specs.Iterator.{Drains, DrainsIf, KeyTurn, PicksByKey, PicksMinByKey}
use Rattle.std.specs.List.{FoldsTo, filter}
use Rattle.std.specs.Option.{option_copied, option_map}
use Rattle.std.specs.Ordering.{is_gt, min_by_ordering}
use Rattle.std.proofs.lemmas.Bool.{cases_Bool}
use Rattle.std.proofs.lemmas.Iterator.{YieldsList, items_from_drains}
use denote.Param.Members.{Mut}
use Rattle.sched.specs.Chosen.{chosen}
use Rattle.sched.proofs.ChosenLemmas.{Settles, best_from, kept, chosen-best_from}

abbrev any : {A : Type 0} → A → Bool
any x = true

module _ {B : Type 0} (passes : B → Bool) (gives_way : B → B → Bool) where
  best_from-filter : (best : Option B) (xs : List B) → best_from any gives_way best (filter passes xs) ≡ best_from passes gives_way best xs
  best_from-filter best [] = refl
  best_from-filter None (x ∷ xs) = elim (cases_Bool (passes x)) [
    | inl passed ↦ rw passed (best_from-filter (Some x) xs)
    | inr fails ↦ rw fails (best_from-filter None xs)
  ]
  best_from-filter (Some best) (x ∷ xs) = elim (cases_Bool (passes x)) [
    | inl passed ↦ rw passed (best_from-filter (kept any gives_way (Some best) x) xs)
    | inr fails ↦ rw fails (best_from-filter (Some best) xs)
  ]

-- of two, the one that an ordering picks
abbrev Picks : Type 0 → Type 0
Picks A = Ordering → A → A → A

-- the ordering of two keys says which element gives way
pub record Orders {A B K : Type 0} (v : A → B) (key : B → K) (gives_way : B → B → Bool) (pick : Picks A) (pick-key : Picks K)
    (cmp : K → K → Ordering) : Type 0 where
  pub takes : (a b : A) → gives_way (v a) (v b) ≡ true
      → (pick (cmp (key (v a)) (key (v b))) a b ≡ b) × (pick-key (cmp (key (v a)) (key (v b))) (key (v a)) (key (v b)) ≡ key (v b))
  pub keeps : (a b : A) → gives_way (v a) (v b) ≡ false
      → (pick (cmp (key (v a)) (key (v b))) a b ≡ a) × (pick-key (cmp (key (v a)) (key (v b))) (key (v a)) (key (v b)) ≡ key (v a))

module _ {A B F K : Type 0} (v : A → B) (key : B → K) (gives_way : B → B → Bool) (pick : Picks A) (pick-key : Picks K)
    (g : Mut F (Bor A × Unit {0}) K) (cmp : K → K → Ordering) (f : F) (orders : Orders v key gives_way pick pick-key cmp)
    (calls : (x : A) (k : K) (q : F) → CalledAt g f x k q → (q ≡ f) × (k ≡ key (v x))) where
  -- a state has the best item with its key
  record IsAt (p : (F × K) × A) : Type 0 where
    callee : p.0.0 ≡ f
    its_key : p.0.1 ≡ key (v p.1)

  one_turn : (p : (F × K) × A) (x : A) (q : (F × K) × A) → IsAt p → KeyTurn pick pick-key g cmp p x q
      → IsAt q × (kept any gives_way (Some (v p.1)) (v x) ≡ Some (v q.1))
  one_turn p x q at t =
      let said = calls x t.0 q.0.0 (subst (λ h. CalledAt g h x t.0 q.0.0) at.callee t.2) in
      let keys : cmp p.0.1 t.0 ≡ cmp (key (v p.1)) (key (v x)) = cc in
      let order : t.1 ≡ cmp (key (v p.1)) (key (v x)) = cc in
      elim (cases_Bool (gives_way (v p.1) (v x))) [
        | inl gives ↦
            let taken = orders.takes p.1 x gives in
            let item : q.1 ≡ x = cc in
            (record { callee = said.0; its_key = cc }, rw gives (ap (λ a. Some (v a)) (sym item)))
        | inr stands ↦
            let stays = orders.keeps p.1 x stands in
            let item : q.1 ≡ p.1 = cc in
            (record { callee = said.0; its_key = cc }, rw stands (ap (λ a. Some (v a)) (sym item)))
      ]

  all_turns : (p : (F × K) × A) (xs : List A) (q : (F × K) × A) → IsAt p → FoldsTo {P = (F × K) × A} (KeyTurn pick pick-key g cmp) p xs q
      → best_from any gives_way (Some (v p.1)) (map v xs) ≡ Some (v q.1)
  all_turns p [] q at h = ap (λ s. Some (v s.1)) h
  all_turns p (x ∷ xs) q at h =
      let turn = one_turn p x h.0 at h.1 in
      ap (λ b. best_from any gives_way b (map v xs)) turn.1 ∙ all_turns h.0 xs q turn.0 h.2

  module _ {S : Type 0} (steps : S → Option A → S → Type 0) (s : S) where
    drains_if : (xs : List A) → Drains steps s xs → DrainsIf steps (Unit {0}) s xs
    drains_if xs d = (d.1.0, d.1.1, λ _. (d.0, d.1.2))

    picked : (ys : List B) (r : Option A) → PicksByKey steps pick pick-key g cmp s f r → YieldsList steps v s ys
        → option_map v r ≡ best_from any gives_way None ys
    picked ys None d gives = ap (best_from any gives_way None) (items_from_drains [] (drains_if [] d) gives)
    picked ys (Some y) d gives =
        let first = calls d.0 d.2 d.3 d.6 in
        sym (all_turns ((d.3, d.2), d.0) d.1 (d.4, y) (record { callee = first.0; its_key = first.1 }) d.7)
        ∙ ap (best_from any gives_way None) (items_from_drains (d.0 ∷ d.1) (drains_if (d.0 ∷ d.1) d.5) gives)

-- the least by key, of equal ones the first
min_takes : {A : Type 0} (o : Ordering) (a b : A) → is_gt o ≡ true → min_by_ordering o a b ≡ b
min_takes Less a b e = cc
min_takes Equal a b e = cc
min_takes Greater a b e = refl

min_keeps : {A : Type 0} (o : Ordering) (a b : A) → is_gt o ≡ false → min_by_ordering o a b ≡ a
min_keeps Less a b e = refl
min_keeps Equal a b e = refl
min_keeps Greater a b e = cc

module _ {A B K : Type 0} (v : A → B) (key : B → K) (gives_way : B → B → Bool) (cmp : K → K → Ordering) where
  orders_min : ((x y : B) → gives_way x y ≡ is_gt (cmp (key x) (key y))) → Orders v key gives_way min_by_ordering min_by_ordering cmp
  orders_min agrees = record {
    takes = λ a b e. let gt = sym (agrees (v a) (v b)) ∙ e in (min_takes _ a b gt, min_takes _ _ _ gt);
    keeps = λ a b e. let le = sym (agrees (v a) (v b)) ∙ e in (min_keeps _ a b le, min_keeps _ _ _ le);
  }

copied_map : {B : Type 0} (r : Option (Bor B)) → option_copied r ≡ option_map (λ x. x.now) r
copied_map None = refl
copied_map (Some x) = refl

-- over references
module _ {B F K S : Type 0} (key : B → K) {gives_way : B → B → Bool} (settles : Settles gives_way) (passes : B → Bool) (xs : List B)
    {steps : S → Option (Bor B) → S → Type 0} {g : Mut F (Bor (Bor B) × Unit {0}) K} (cmp : K → K → Ordering) {s : S} {f : F}
    (r : Option (Bor B)) where
  pub chosen-min_by_key : PicksMinByKey steps g cmp s f r → YieldsList steps (λ x. x.now) s (filter passes xs)
      → ((x : Bor B) (k : K) (q : F) → CalledAt g f x k q → (q ≡ f) × (k ≡ key x.now))
      → ((x y : B) → gives_way x y ≡ is_gt (cmp (key x) (key y)))
      → option_copied r ≡ chosen passes gives_way xs
  chosen-min_by_key d gives calls agrees =
      let orders = orders_min (λ x. x.now) key gives_way cmp agrees in
      copied_map r
      ∙ picked (λ x. x.now) key gives_way min_by_ordering min_by_ordering g cmp f orders calls steps s (filter passes xs) r d gives
      ∙ best_from-filter passes gives_way None xs ∙ sym (chosen-best_from passes gives_way settles xs)
