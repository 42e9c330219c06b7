-- The text of a renaming: no name has the byte of `=`.
use Rattle.std.proofs.Common.{rules, ◌≡◌, ◌∙◌, ℕ, ◌++◌, ◌∷◌, [], Bool, true, false, not, Bor, MatchOption, Option, Some, None, ap, option_map, refl, subst, sym, nat_eq}
use Rattle.std.specs.Cmp.{first_so, second_so}
use Rattle.std.specs.Cmp.Derive.{both_true}
use Rattle.std.specs.List.{list_all}
use Rattle.std.proofs.lemmas.Bool.{eqb-true, false≢true}
use Rattle.dates.proofs.CutLemmas.{cut_at-lacking, lacks}
use Rattle.dates.specs.Notation.{cut_at}
use Rattle.points.specs.Name.{IsName, is_name_byte}
use Rattle.points.specs.Texts.{Text}

name_byte-other : (byte : ℕ) → is_name_byte byte ≡ true → not (nat_eq 61 byte) ≡ true
name_byte-other byte is = by_test (nat_eq 61 byte) refl
  where
    by_test : (b : Bool) → nat_eq 61 byte ≡ b → not b ≡ true
    by_test true same = absurd (false≢true (subst (λ n. is_name_byte n ≡ true) (sym (eqb-true 61 byte same)) is))
    by_test false other = refl

pub lacks-name : (name : Text) → list_all is_name_byte name ≡ true → lacks 61 name ≡ true
lacks-name [] is = refl
lacks-name (byte ∷ name) is = both_true (name_byte-other byte (first_so _ _ is)) (lacks-name name (second_so _ _ is))

-- a renaming is cut into its names
pub cut-renaming : (old new : Text) → IsName old → cut_at (61 ∷ []) (old ++ 61 ∷ new) ≡ Some (old, new)
cut-renaming old new named = cut_at-lacking 61 [] old new (lacks-name old (second_so _ _ named))

pub cut-parts : (text : Text) (r : Option (Bor Text × Bor Text)) → option_map {U = Text × Text} (λ cut. (cut.0.now, cut.1.now)) r ≡ cut_at (61 ∷ []) text
    → (old new : Text) → IsName old → text ≡ old ++ 61 ∷ new → MatchOption r ⊥ (λ cut. (cut.0.now ≡ old) × (cut.1.now ≡ new))
cut-parts text r is_cut old new named whole =
    parts r (is_cut ∙ ap (λ (t : Text). cut_at (61 ∷ []) t) whole ∙ cut-renaming old new named)
  where
    parts : (r : Option (Bor Text × Bor Text)) → option_map {U = Text × Text} (λ cut. (cut.0.now, cut.1.now)) r ≡ Some (old, new)
        → MatchOption r ⊥ (λ cut. (cut.0.now ≡ old) × (cut.1.now ≡ new))
    parts None is = search rules
    parts (Some cut) is = search rules
