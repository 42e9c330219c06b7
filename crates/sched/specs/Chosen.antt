-- How one element of a list wins: of those that pass, it is the one that beats every other.
use Rattle.std.specs.Prelude.{Bool, not, ◌&&◌, ◌||◌, if◌then◌else◌, List, [], ◌∷◌, ◌++◌, Option, Some, None}
use Rattle.std.specs.List.{list_all}

-- x passes, each other one before it that passes gives way to it, and it gives way to none after it
abbrev pub is_chosen : {A : Type 0} → (A → Bool) → (A → A → Bool) → List A → A → List A → Bool
is_chosen passes gives_way before x after =
    passes x
    && (list_all (λ q. not (passes q) || gives_way q x) before && list_all (λ q. not (passes q) || not (gives_way x q)) after)

abbrev pub chosen_from : {A : Type 0} → (A → Bool) → (A → A → Bool) → List A → List A → Option A
chosen_from passes gives_way before [] = None
chosen_from passes gives_way before (x ∷ after) =
    if is_chosen passes gives_way before x after then Some x else chosen_from passes gives_way (before ++ x ∷ []) after

-- the element of a list that passes a test, and to which every other that passes gives way
unfoldable pub chosen : {A : Type 0} → (A → Bool) → (A → A → Bool) → List A → Option A
chosen passes gives_way xs = chosen_from passes gives_way [] xs
