-- What a place holds after one value more was put.
use Rattle.std.proofs.Common.{◌≡◌, ◌≢◌, ℕ, Bool, true, false, cond, ◌==◌, ◌&&◌, ◌++◌, List, [], ◌∷◌, Option, Some, None, is_some, inl, inr, refl, sym, ap, ◌∙◌, arith}
use Rattle.std.specs.FinMap.{empty, get, get-empty, get-insert, get-remove}
use Rattle.std.specs.Cmp.{nat_cmp_total}
use Rattle.std.specs.Ordering.{eq_by_cmp, nat_cmp}
use Rattle.std.specs.Prelude.{ℤ}
use Rattle.std.specs.Str.{bytes_eq}
use Rattle.std.proofs.lemmas.Bool.{false≢true, cases_Bool}
use Rattle.std.proofs.lemmas.Bool.Decides.{Decides-eqb, nat_tests}
use Rattle.points.specs.PriorityArray.{Places, put}
use Rattle.store.specs.declared.change.PlaceValue.{PlaceValue}
use Rattle.store.specs.Change.{with_each, with_place}
use Rattle.points.specs.Texts.{Text}
use Rattle.desk_adopt.specs.Adopted.{no_places}
use Rattle.store_copy.specs.Named.{or_else}
use Rattle.desk_adopt.specs.Renamed.{at_name}
use Rattle.desk_adopt.proofs.ItemLemmas.{with_each-append}

tied : (q k : ℕ) → eq_by_cmp nat_cmp q k ≡ (k == q)
tied q k = grind (arith, nat_tests)

get-put : (places : Places) (k q : ℕ) (value : Option ℤ) → get (put places k value) q ≡ cond (k == q) value (get places q)
get-put places k q None = get-remove nat_cmp_total places k q ∙ ap (λ same. cond same None (get places q)) (tied q k)
get-put places k q (Some value) = get-insert nat_cmp_total places k value q ∙ ap (λ same. cond same (Some value) (get places q)) (tied q k)

get-with_place : (item : PlaceValue) (places : Text → Places) (q : Text) (p : ℕ)
    → get (with_place item places q) p ≡ cond (bytes_eq item.point q && item.priority == p) item.value (get (places q) p)
get-with_place item places q p = by (bytes_eq item.point q)
  where
    by : (here : Bool) → get (cond here (put (places q) item.priority item.value) (places q)) p
        ≡ cond (here && item.priority == p) item.value (get (places q) p)
    by true = get-put (places q) item.priority p item.value
    by false = refl

-- a value more in a place
pub get-more : (items : List PlaceValue) (item : PlaceValue) (q : Text) (p : ℕ)
    → get (with_each with_place (items ++ item ∷ []) no_places q) p
    ≡ cond (bytes_eq item.point q && item.priority == p) item.value (get (with_each with_place items no_places q) p)
get-more items item q p =
    ap (λ (f : Text → Places). get (f q) p) (with_each-append with_place items (item ∷ []) no_places)
    ∙ get-with_place item (with_each with_place items no_places) q p

-- in another point's place, or at another priority, nothing changes
pub same-elsewhere : (items : List PlaceValue) (item : PlaceValue) (q : Text) (p : ℕ) → bytes_eq item.point q ≡ false
    → get (with_each with_place (items ++ item ∷ []) no_places q) p ≡ get (with_each with_place items no_places q) p
same-elsewhere items item q p other = get-more items item q p
    ∙ ap (λ b. cond (b && item.priority == p) item.value (get (with_each with_place items no_places q) p)) other

pub same-apart : (items : List PlaceValue) (item : PlaceValue) (q : Text) (p : ℕ) → item.priority ≢ p
    → get (with_each with_place (items ++ item ∷ []) no_places q) p ≡ get (with_each with_place items no_places q) p
same-apart items item q p apart = get-more items item q p ∙ by (bytes_eq item.point q)
  where
    by : (b : Bool) → cond (b && item.priority == p) item.value (get (with_each with_place items no_places q) p)
        ≡ get (with_each with_place items no_places q) p
    by false = refl
    by true = elim (cases_Bool (item.priority == p)) [
      | inl same ↦ absurd (apart ((Decides-eqb item.priority p).0 same))
      | inr other ↦ ap (λ b. cond b item.value (get (with_each with_place items no_places q) p)) other
    ]

pub put-here : (items : List PlaceValue) (item : PlaceValue) (q : Text) → bytes_eq item.point q ≡ true
    → get (with_each with_place (items ++ item ∷ []) no_places q) item.priority ≡ item.value
put-here items item q same = get-more items item q item.priority
    ∙ ap (λ b. cond (b && item.priority == item.priority) item.value (get (with_each with_place items no_places q) item.priority)) same
    ∙ ap (λ b. cond b item.value (get (with_each with_place items no_places q) item.priority)) ((Decides-eqb item.priority item.priority).1 refl)

pub first-some : {A : Type 0} (first second : Option A) → is_some first ≡ true → or_else first second ≡ first
first-some (Some x) second is = refl
first-some None second is = absurd (false≢true is)

pub none-first : {A : Type 0} (first second : Option A) → is_some first ≡ false → or_else first second ≡ second
none-first None second isnt = refl
none-first (Some x) second isnt = absurd (false≢true (sym isnt))

-- of a point that had no name, nothing was in any place
pub no-former : (places : Text → Places) (o : Option Text) (p : ℕ) → None ≡ o → get (at_name places empty o) p ≡ None
no-former places o p is = ap (λ name. get (at_name places empty name) p) (sym is) ∙ get-empty nat_cmp p
