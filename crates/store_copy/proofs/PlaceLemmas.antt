-- What a place holds after one value more was put.
use Rattle.std.proofs.Common.{◌≡◌, ◌∙◌, ℕ, zero, suc, ◌≤◌, Bool, true, false, cond, ◌==◌, ◌&&◌, ◌++◌, List, [], ◌∷◌, Option, Some, None, is_some, refl, ap, arith}
use Rattle.std.specs.FinMap.{get, get-insert, get-remove}
use Rattle.std.specs.Cmp.{nat_cmp_total}
use Rattle.std.specs.Ordering.{eq_by_cmp, nat_cmp}
use Rattle.std.specs.Prelude.{ℤ}
use Rattle.std.specs.Str.{bytes_eq}
use Rattle.std.proofs.lemmas.Bool.{false≢true}
use Rattle.std.proofs.lemmas.Bool.Decides.{nat_tests}
use Rattle.points.specs.PriorityArray.{HasSixteenPlaces, Places, put}
use Rattle.points.specs.Texts.{Text}
use Rattle.store.specs.Change.{with_each, with_place}
use Rattle.store.specs.declared.change.PlaceValue.{PlaceValue}
use Rattle.store.specs.Tables.{no_tables}
use Rattle.store_copy.specs.Named.{or_else}
use Rattle.store_copy.proofs.FillLemmas.{is_before}
use Rattle.store_copy.proofs.NameLemmas.{with_each-append}

tied : (q k : ℕ) → eq_by_cmp nat_cmp q k ≡ (k == q)
tied q k = grind (arith, nat_tests)

get-put : (places : Places) (k q : ℕ) (value : Option ℤ) → get (put places k value) q ≡ cond (k == q) value (get places q)
get-put places k q None = get-remove nat_cmp_total places k q ∙ ap (λ same. cond same None (get places q)) (tied q k)
get-put places k q (Some value) = get-insert nat_cmp_total places k value q ∙ ap (λ same. cond same (Some value) (get places q)) (tied q k)

get-with_place : (item : PlaceValue) (places : Text → Places) (q : Text) (p : ℕ)
    → get (with_place item places q) p ≡ cond (bytes_eq item.point q && item.priority == p) item.value (get (places q) p)
get-with_place item places q p = by (bytes_eq item.point q)
  where
    by : (here : Bool) → get (cond here (put (places q) item.priority item.value) (places q)) p
        ≡ cond (here && item.priority == p) item.value (get (places q) p)
    by true = get-put (places q) item.priority p item.value
    by false = refl

first-some : (first second : Option ℤ) → is_some first ≡ true → first ≡ or_else first second
first-some (Some x) second is = refl
first-some None second is = absurd (false≢true is)

-- a value more in a place
pub place-more : (items : List PlaceValue) (item : PlaceValue) (q : Text) (p : ℕ) → is_some item.value ≡ true
    → get (with_each with_place (items ++ item ∷ []) no_tables.places q) p
    ≡ cond (bytes_eq item.point q && item.priority == p) (or_else item.value (get (with_each with_place items no_tables.places q) p))
    (get (with_each with_place items no_tables.places q) p)
place-more items item q p some =
    let old = get (with_each with_place items no_tables.places q) p in
    ap (λ (f : Text → Places). get (f q) p) (with_each-append with_place items (item ∷ []) no_tables.places)
    ∙ get-with_place item (with_each with_place items no_tables.places) q p
    ∙ ap (λ o. cond (bytes_eq item.point q && item.priority == p) o old) (first-some item.value old some)

-- an array of sixteen places has nothing elsewhere
pub past-sixteen : (places : Places) (p : ℕ) → HasSixteenPlaces places → is_before 17 p ≡ false → get places p ≡ None
past-sixteen places zero sixteen other = sixteen.above
past-sixteen places (suc p) sixteen other = sixteen.below (suc p) (omega (arith, past))
  where
    past : 17 ≤ suc p
    past = grind (arith, nat_tests)
