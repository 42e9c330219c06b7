-- Four parts of a text, one after another.
use Rattle.std.proofs.Common.{◌≡◌, ◌∙◌, ℕ, List, ◌++◌, ap, append_assoc}

pub joined : (first second third fourth line places default changes : List ℕ) → first ≡ line → second ≡ first ++ places
    → third ≡ second ++ default → fourth ≡ third ++ changes → fourth ≡ line ++ (places ++ (default ++ changes))
joined first second third fourth line places default changes is more last next =
    next ∙ (ap (λ text. text ++ changes) (last ∙ (ap (λ text. text ++ default) (more ∙ ap (λ text. text ++ places) is)))
    ∙ (append_assoc (line ++ places) default changes ∙ append_assoc line places (default ++ changes)))
