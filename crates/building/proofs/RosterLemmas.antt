-- Items and the names that their index holds.
use Rattle.std.proofs.Common.{◌≡◌, ℕ, ◌+◌, Bool, true, false, ◌&&◌, ◌||◌, ◌++◌, cond, not, nat_lt, List, [], ◌∷◌, length, map, Some, None, slice_get, position, find, bytes_eq, refl, sym, ap, ap₂, ◌∙◌}
use Rattle.std.specs.Cmp.Lexicographic.{nat_list_eq_equiv}
use Rattle.std.specs.List.{position_or_len, prefix_len}
use Rattle.std.proofs.lemmas.Bool.{ltb-false}
use Rattle.std.proofs.lemmas.List.{length-map, map-append}
use Rattle.std.proofs.lemmas.List.Folds.{find_at}
use Rattle.std.proofs.lemmas.Option.{slice_get_past}
use Rattle.points.specs.NameIndex.{is_among}
use Rattle.building.specs.Roster.{are_distinct, has_name}

pub among-map : {A : Type 0} (name_of : A → List ℕ) (name : List ℕ) (xs : List A)
    → is_among name (map name_of xs) ≡ has_name name_of name xs
among-map name_of name [] = refl
among-map name_of name (x ∷ xs) = ap (λ b. bytes_eq (name_of x) name || b) (among-map name_of name xs)

prefix_len-map : {A B : Type 0} (f : A → B) (q : B → Bool) (xs : List A)
    → prefix_len q (map f xs) ≡ prefix_len (λ x. q (f x)) xs
prefix_len-map f q [] = refl
prefix_len-map f q (x ∷ xs) = ap (λ n. cond (q (f x)) (1 + n) 0) (prefix_len-map f q xs)

pub position-map : {A B : Type 0} (f : A → B) (q : B → Bool) (xs : List A)
    → position q (map f xs) ≡ position (λ x. q (f x)) xs
position-map f q xs = ap₂ (λ n m. cond (nat_lt n m) (Some n) None)
    (prefix_len-map f (λ y. not (q y)) xs) (length-map xs f)

-- what stands at the position is what is found
pub found_at : {A : Type 0} (p : A → Bool) (xs : List A) (i : ℕ) → position p xs ≡ Some i → slice_get xs i ≡ find p xs
found_at p xs i e = by (nat_lt (position_or_len p xs) (length xs)) refl
  where
    by : (b : Bool) → nat_lt (position_or_len p xs) (length xs) ≡ b → slice_get xs i ≡ find p xs
    by true t = let same : Some (position_or_len p xs) ≡ Some i = sym (ap (λ b. cond b (Some (position_or_len p xs)) None) t) ∙ e in
        let at : position_or_len p xs ≡ i = (cc) in
        ap (slice_get xs) (sym at) ∙ sym (find_at p xs)
    by false t = let none : None ≡ Some i = sym (ap (λ b. cond b (Some (position_or_len p xs)) None) t) ∙ e in (cc)

pub not_found : {A : Type 0} (p : A → Bool) (xs : List A) → position p xs ≡ None → find p xs ≡ None
not_found p xs e = by (nat_lt (position_or_len p xs) (length xs)) refl
  where
    by : (b : Bool) → nat_lt (position_or_len p xs) (length xs) ≡ b → find p xs ≡ None
    by true t = let some : Some (position_or_len p xs) ≡ None = sym (ap (λ b. cond b (Some (position_or_len p xs)) None) t) ∙ e in (cc)
    by false t = find_at p xs ∙ slice_get_past xs (position_or_len p xs) (ltb-false (position_or_len p xs) (length xs) t)

-- one more item, and its name
pub names_pushed : {A : Type 0} (name_of : A → List ℕ) (names : List (List ℕ)) (xs : List A) (x : A)
    → names ≡ map name_of xs → names ++ name_of x ∷ [] ≡ map name_of (xs ++ x ∷ [])
names_pushed name_of names xs x e = ap (λ ns. ns ++ name_of x ∷ []) e ∙ sym (map-append name_of xs (x ∷ []))

-- ---- no name twice

fails-left : (a b : Bool) → (a || b) ≡ false → a ≡ false
fails-left true b e = e
fails-left false b e = refl

fails-right : (a b : Bool) → (a || b) ≡ false → b ≡ false
fails-right true b e = absurd (cc)
fails-right false b e = e

holds-left : (a b : Bool) → (a && b) ≡ true → a ≡ true
holds-left true b e = refl
holds-left false b e = e

holds-right : (a b : Bool) → (a && b) ≡ true → b ≡ true
holds-right true b e = e
holds-right false b e = absurd (cc)

-- another name put last adds none that was looked for
among-pushed : (m n : List ℕ) (names : List (List ℕ)) → bytes_eq n m ≡ false → is_among m (names ++ n ∷ []) ≡ is_among m names
among-pushed m n [] other = ap (λ b. b || false) other
among-pushed m n (first ∷ names) other = ap (λ b. bytes_eq first m || b) (among-pushed m n names other)

pub distinct_pushed : (n : List ℕ) (names : List (List ℕ)) → are_distinct names ≡ true → is_among n names ≡ false
    → are_distinct (names ++ n ∷ []) ≡ true
distinct_pushed n [] distinct new = refl
distinct_pushed n (first ∷ names) distinct new =
    let other : bytes_eq n first ≡ false = nat_list_eq_equiv.symm n first ∙ fails-left (bytes_eq first n) (is_among n names) new in
    let rest : are_distinct (names ++ n ∷ []) ≡ true =
    distinct_pushed n names (holds-right (not (is_among first names)) (are_distinct names) distinct)
    (fails-right (bytes_eq first n) (is_among n names) new) in
    ap₂ (λ x y. not x && y) (among-pushed first n names other) rest
    ∙ ap (λ x. x && true) (holds-left (not (is_among first names)) (are_distinct names) distinct)
