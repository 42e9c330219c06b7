-- The lines of days, printed one after the other.
use Rattle.std.proofs.Common.{◌≡◌, ◌∙◌, ◌+◌, ◌<◌, ℕ, List, [], ◌∷◌, ◌++◌, Option, get_or, length, take, sym, ap, subst}
use Rattle.std.specs.Io.KnownBytes.{Appends}
use Rattle.std.specs.List.{flat_map}
use Rattle.std.proofs.lemmas.Grind.{flat_map-append}
use Rattle.std.proofs.lemmas.List.{append-nil, take_more}
use Rattle.cli_common.proofs.PrintedLemmas.{Appends-Appends, start-after, start-taken}
use Rattle.points.specs.Beginnings.{AppendsStart}

module _ {A : Type 0} (f : A → List ℕ) (xs : List A) (i : ℕ) (x : A) (text : List ℕ) (within : i < length xs)
    (is : x ≡ get_or xs i x) (tells : text ≡ f x) where
  more : flat_map f (take i xs) ++ text ≡ flat_map f (take (i + 1) xs)
  more = sym (ap (flat_map f) (take_more xs i x within) ∙ flat_map-append f (take i xs) (get_or xs i x ∷ [])
      ∙ ap (λ l. flat_map f (take i xs) ++ l) (append-nil (f (get_or xs i x)) ∙ ap f (sym is) ∙ sym tells))

  pub printed-more : (old mid new : Option (List ℕ)) → Appends old mid (flat_map f (take i xs)) → Appends mid new text
      → Appends old new (flat_map f (take (i + 1) xs))
  printed-more old mid new before now =
      subst (λ t. Appends old new t) more (Appends-Appends old mid new (flat_map f (take i xs)) text before now)

  pub started-more : (old mid new : Option (List ℕ)) → Appends old mid (flat_map f (take i xs)) → AppendsStart mid new text
      → AppendsStart old new (flat_map f xs)
  started-more old mid new before now =
      start-taken f xs (i + 1) old new (subst (λ t. AppendsStart old new t) more
      (start-after old mid new (flat_map f (take i xs)) text before now))
