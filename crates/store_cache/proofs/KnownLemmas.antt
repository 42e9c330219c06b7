-- What is known of a table, where one value or a list of changes is carried over.
use Rattle.std.proofs.Common.{◌≡◌, ℕ, zero, suc, ◌+◌, ◌<◌, Bool, false, cond, List, [], ◌∷◌, Option, Some, None, refl, sym, ap, ◌∙◌, subst, inl, inr, get_or, length, take, arith, add-one, ℤ}
use Rattle.std.specs.Option.{option_map}
use Rattle.std.specs.Str.{bytes_eq}
use Rattle.std.proofs.lemmas.Bool.{cases_Bool}
use Rattle.std.proofs.lemmas.Slice.Eq.{bytes_eq-Decides}
use Rattle.store.specs.Change.{with_each, with_last_tick}
use Rattle.points.specs.Texts.{Text}
use Rattle.store_cache.specs.Known.{Knows}

module _ {V : Type 0} (Is : Text → V → Type 0) (stuck : Text → Bool) where
  -- the same is known
  pub known_same : (found now : Text → Option V) → ((q : Text) → now q ≡ found q) → Knows found Is stuck → Knows now Is stuck
  known_same found now same knows q value is = knows q value (sym (same q) ∙ is)

  -- one value more is known
  pub known_more : (found now : Text → Option V) (name : Text) (value : V)
      → ((q : Text) → now q ≡ cond (bytes_eq name q) (Some value) (found q))
      → Is name value → stuck name ≡ false → Knows found Is stuck → Knows now Is stuck
  known_more found now name value puts here stands knows q other is =
      elim (cases_Bool (bytes_eq name q)) [
        | inl equal ↦
            let same : name ≡ q = (bytes_eq-Decides name q).0 equal in
            let reported = rw equal at (sym (puts q) ∙ is) in
            let it : value ≡ other = cc in
            subst (λ n. Is n other × (stuck n ≡ false)) same (subst (Is name) it here, stands)
        | inr apart ↦ let reported = rw apart at (sym (puts q) ∙ is) in knows q other reported
      ]

  -- nothing is known under a name any more
  pub known_without : (After : Text → V → Type 0) (found now : Text → Option V) (name : Text)
      → ((q : Text) → now q ≡ cond (bytes_eq name q) None (found q))
      → ((q : Text) (value : V) → bytes_eq name q ≡ false → Is q value → After q value)
      → Knows found Is stuck → Knows now After stuck
  known_without After found now name takes elsewhere knows q value is =
      elim (cases_Bool (bytes_eq name q)) [
        | inl equal ↦ let reported = rw equal at (sym (takes q) ∙ is) in absurd (let e : ⊥ = cc in e)
        | inr apart ↦
            let reported = rw apart at (sym (takes q) ∙ is) in
            let both = knows q value reported in
            (elsewhere q value apart both.0, both.1)
      ]

-- one item more of a list is put
pub put_more : {Item Table : Type 0} (put : Item → Table → Table) (items : List Item) (i : ℕ) (item : Item) (table : Table)
    → i < length items → item ≡ get_or items i item
    → with_each put (take (i + 1) items) table ≡ put item (with_each put (take i items) table)
put_more put [] i item table below is = absurd (omega arith)
put_more put (x ∷ xs) zero item table below is = ap (λ it. put it table) (sym is)
put_more put (x ∷ xs) (suc i) item table below is = rw add-one (let rest = rw add-one at (put_more put xs i item (put x table) (omega arith) is) in rest)

-- the last tick after a change, if the earlier one is known
pub last_known : (known : Option (Option ℤ)) (changed table : Option ℤ) (stuck : Bool)
    → ((last : Option ℤ) → known ≡ Some last → (table ≡ last) × (stuck ≡ false))
    → (last : Option ℤ) → option_map (with_last_tick changed) known ≡ Some last → (with_last_tick changed table ≡ last) × (stuck ≡ false)
last_known None changed table stuck knows last is = absurd (let e : ⊥ = cc in e)
last_known (Some earlier) changed table stuck knows last is =
    let both = knows earlier refl in
    let after : with_last_tick changed earlier ≡ last = cc in
    (ap (with_last_tick changed) both.0 ∙ after, both.1)
