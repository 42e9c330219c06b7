-- One text printed after another, and beginnings of texts.
use Rattle.std.proofs.Common.{◌≡◌, ℕ, List, [], ◌++◌, take, drop, Option, Some, None, refl, sym, ap, subst, ◌∙◌, append_assoc}
use Rattle.std.proofs.lemmas.Grind.{flat_map-append}
use Rattle.std.proofs.lemmas.List.{append-nil, take-append-drop}
use Rattle.std.specs.List.{flat_map}
use Rattle.std.specs.Io.KnownBytes.{Appends, Keeps}
use Rattle.points.specs.Beginnings.{AppendsStart}

pub Appends-Appends : (a b c : Option (List ℕ)) (x y : List ℕ) → Appends a b x → Appends b c y → Appends a c (x ++ y)
Appends-Appends None b c x y h k = tt
Appends-Appends (Some xs) None c x y h k = absurd h
Appends-Appends (Some xs) (Some ys) None x y h k = absurd k
Appends-Appends (Some xs) (Some ys) (Some zs) x y h k = k ∙ ap (λ t. t ++ y) h ∙ append_assoc xs x y

pub Appends-Keeps : (a b c : Option (List ℕ)) (x : List ℕ) → Appends a b x → Keeps b c → Appends a c x
Appends-Keeps None b c x h k = tt
Appends-Keeps (Some xs) None c x h k = absurd h
Appends-Keeps (Some xs) (Some ys) None x h k = absurd k
Appends-Keeps (Some xs) (Some ys) (Some zs) x h k = k ∙ h

pub Keeps-same : (a : Option (List ℕ)) → Keeps a a
Keeps-same None = tt
Keeps-same (Some xs) = refl

pub Appends-nothing : (a : Option (List ℕ)) → Appends a a []
Appends-nothing None = tt
Appends-nothing (Some xs) = sym (append-nil xs)

-- ---- beginnings of a text

pub start-nothing : (a : Option (List ℕ)) (text : List ℕ) → AppendsStart a a text
start-nothing a text = ([], text, refl, Appends-nothing a)

pub start-whole : (a b : Option (List ℕ)) (text : List ℕ) → Appends a b text → AppendsStart a b text
start-whole a b text whole = (text, [], sym (append-nil text), whole)

pub start-after : (a b c : Option (List ℕ)) (text more : List ℕ) → Appends a b text → AppendsStart b c more
    → AppendsStart a c (text ++ more)
start-after a b c text more whole start = (
  text ++ start.0,
  start.1,
  ap (λ t. text ++ t) start.2 ∙ sym (append_assoc text start.0 start.1),
  Appends-Appends a b c text start.0 whole start.3,
)

pub start-longer : (a b : Option (List ℕ)) (text more : List ℕ) → AppendsStart a b text → AppendsStart a b (text ++ more)
start-longer a b text more start = (start.0, start.1 ++ more, ap (λ t. t ++ more) start.2 ∙ append_assoc start.0 start.1 more, start.3)

pub start-Keeps : (a b c : Option (List ℕ)) (text : List ℕ) → AppendsStart a b text → Keeps b c → AppendsStart a c text
start-Keeps a b c text start kept = (start.0, start.1, start.2, Appends-Keeps a b c start.0 start.3 kept)

-- the texts of some items, and of all
pub start-taken : {A : Type 0} (f : A → List ℕ) (xs : List A) (i : ℕ) (a b : Option (List ℕ))
    → AppendsStart a b (flat_map f (take i xs)) → AppendsStart a b (flat_map f xs)
start-taken f xs i a b start =
    let all : flat_map f (take i xs) ++ flat_map f (drop i xs) ≡ flat_map f xs = sym (flat_map-append f (take i xs) (drop i xs))
    ∙ ap (flat_map f) (take-append-drop i xs) in
    subst (λ text. AppendsStart a b text) all (start-longer a b (flat_map f (take i xs)) (flat_map f (drop i xs)) start)
