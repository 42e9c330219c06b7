-- What was accepted of a panel grows, and with it what is applied.
use Rattle.std.proofs.Common.{◌≡◌, ℕ, suc, zero, ◌+◌, ◌-◌, ◌<◌, ◌≤◌, List, [], ◌∷◌, ◌++◌, Option, Some, None}
use Rattle.std.proofs.Common.{refl, sym, ap, ap₂, ◌∙◌, subst, arith}
use Rattle.std.specs.List.{flat_map}
use Rattle.std.proofs.lemmas.Grind.{flat_map-append}
use Rattle.points.specs.declared.content.Content.{Content}
use Rattle.points.specs.Texts.{Text}
use Rattle.window.specs.declared.numbered_content.NumberedContent.{NumberedContent}
use Rattle.window.specs.Applied.{applied, and_at, contents_from}
use Rattle.window.specs.Taken as asks
use Rattle.window.proofs.FrontLemmas.{front-take}
use Rattle.window.proofs.TakenLemmas.{content_at-below, taken-append}
use Rattle.building.specs.Building.{Building}
use Rattle.deliveries.specs.declared.delivery.Delivery.{Delivery}
use Rattle.deliveries.specs.Accepted.{asks_of, taken_by}

-- ---- what was accepted grows

pub record Grows (t u : asks.Taken) : Type 0 where
  pub rises : asks.front t ≤ asks.front u
  pub below : (k : ℕ) → k < asks.front t → asks.content_at u k ≡ asks.content_at t k

Grows-taken : (t : asks.Taken) (xs : List asks.Ask) → Grows t (asks.taken t xs)
Grows-taken t [] = record { rises = omega arith; below = λ k low. refl }
Grows-taken t (x ∷ xs) =
    let more = Grows-taken (asks.take t x) xs in
    let first = front-take t x in
    let rest = more.rises in
    record {
      rises = omega (arith, first, rest);
      below = λ k low. more.below k (omega (arith, low, first)) ∙ content_at-below t x k low;
    }

pub Grows-by : (b : Building) (p : Text) (E ds : List Delivery) → Grows (taken_by b p E) (taken_by b p (E ++ ds))
Grows-by b p E ds =
    subst (Grows (taken_by b p E)) (sym (ap (asks.taken asks.opening) (flat_map-append (asks_of b p) E ds)
    ∙ taken-append asks.opening (flat_map (asks_of b p) E) (flat_map (asks_of b p) ds)))
    (Grows-taken (taken_by b p E) (flat_map (asks_of b p) ds))

-- ---- what is applied, in two parts

and_at-append : (n : ℕ) (content : Option Content) (xs ys : List NumberedContent) → and_at n content (xs ++ ys) ≡ and_at n content xs ++ ys
and_at-append n None xs ys = refl
and_at-append n (Some content) xs ys = refl

contents_from-split : (a c m : ℕ) (t : asks.Taken) (n : ℕ) → m ≡ a + c
    → contents_from m t n ≡ contents_from a t n ++ contents_from c t (n + a)
contents_from-split zero c m t n is =
    let whole : m ≡ c = omega (arith, is) in
    let same : n ≡ n + zero = omega arith in
    ap₂ (λ d k. contents_from d t k) whole same
contents_from-split (suc a) c zero t n is = absurd (omega (arith, is))
contents_from-split (suc a) c (suc m) t n is =
    let same : (n + 1) + a ≡ n + suc a = omega arith in
    ap (and_at n (asks.content_at t n)) (contents_from-split a c m t (n + 1) (omega (arith, is))
    ∙ ap (λ k. contents_from a t (n + 1) ++ contents_from c t k) same)
    ∙ and_at-append n (asks.content_at t n) (contents_from a t (n + 1)) (contents_from c t (n + suc a))

contents_from-same : (c : ℕ) (t u : asks.Taken) (n : ℕ)
    → ((k : ℕ) → n ≤ k → k < n + c → asks.content_at u k ≡ asks.content_at t k) → contents_from c u n ≡ contents_from c t n
contents_from-same zero t u n same = refl
contents_from-same (suc c) t u n same =
    ap₂ (and_at n) (same n (omega arith) (omega arith))
    (contents_from-same c t u (n + 1) (λ k from below. same k (omega (arith, from)) (omega (arith, below))))

pub applied-split : (t u v : asks.Taken) → Grows t u → Grows u v → applied t v ≡ applied t u ++ applied u v
unfolding applied
applied-split t u v first more =
    let f = asks.front t in
    let g = asks.front u in
    let h = asks.front v in
    let low = first.rises in
    let high = more.rises in
    let whole : h - f ≡ (g - f) + (h - g) = omega (arith, low, high) in
    let reached : f + (g - f) ≡ g = omega (arith, low) in
    contents_from-split (g - f) (h - g) (h - f) v f whole
    ∙ ap₂ (λ xs ys. xs ++ ys) (contents_from-same (g - f) u v f (λ k from below. more.below k (omega (arith, below, low))))
    (ap (contents_from (h - g) v) reached)

pub applied-none : (t : asks.Taken) → applied t t ≡ []
unfolding applied
applied-none t = let none : asks.front t - asks.front t ≡ zero = omega arith in ap (λ c. contents_from c t (asks.front t)) none
