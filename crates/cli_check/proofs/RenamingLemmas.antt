-- The renamings among the words, one after the other.
use Rattle.std.proofs.Common.{◌≡◌, ◌∙◌, ◌+◌, ◌<◌, ◌++◌, ◌∷◌, [], ℕ, true, false, Bor, List, ap, get_or, length, map, refl, subst, sym, take}
use Rattle.std.specs.Bool.{IsTrue}
use Rattle.std.specs.List.{list_any}
use Rattle.std.proofs.lemmas.Bool.{or_from, or_parts}
use Rattle.std.proofs.lemmas.List.Elements.{All-push}
use Rattle.std.proofs.lemmas.List.{take_more}
use Rattle.std.specs.Str.{bytes_eq}
use Rattle.desk_adopt.specs.declared.renaming.Renaming.{Renaming}
use Rattle.building.specs.Building.{Building}
use Rattle.building.specs.Roster.{are_distinct}
use Rattle.building.proofs.RosterLemmas.{distinct_pushed}
use Rattle.points.specs.NameIndex.{is_among}
use Rattle.points.specs.Texts.{Text}
use Rattle.desk_adopt.proofs.ReadLemmas.{zip-more}
use Rattle.cli_check.specs.Renamings.{AreRenamings, IsRenaming, JoinsThem, has_name}

map_pushed : {A B : Type 0} (f : A → B) (xs : List A) (x : A) → map f (xs ++ x ∷ []) ≡ map f xs ++ f x ∷ []
map_pushed f [] x = refl
map_pushed f (y ∷ xs) x = ap (λ l. f y ∷ l) (map_pushed f xs x)

among_mapped : (f : Renaming → Text) (n : Text) (xs : List Renaming) → list_any (λ it. bytes_eq (f it) n) xs ≡ false
    → is_among n (map f xs) ≡ false
among_mapped f n [] none = refl
among_mapped f n (x ∷ xs) none =
    let parts = or_parts (bytes_eq (f x) n) (list_any (λ it. bytes_eq (f it) n) xs) none in
    or_from (bytes_eq (f x) n) (is_among n (map f xs)) parts.0 (among_mapped f n xs parts.1)

distinct_more : (f : Renaming → Text) (xs : List Renaming) (x : Renaming) → are_distinct (map f xs) ≡ true
    → list_any (λ it. bytes_eq (f it) (f x)) xs ≡ false → are_distinct (map f (xs ++ x ∷ [])) ≡ true
distinct_more f xs x before other =
    ap are_distinct (map_pushed f xs x) ∙ distinct_pushed (f x) (map f xs) before (among_mapped f (f x) xs other)

-- one renaming more
pub renamings_more : (building : Building) (texts : List Text) (text : Text) (renamings : List Renaming) (it : Renaming)
    → AreRenamings building texts renamings → IsRenaming text it → JoinsThem building renamings it
    → AreRenamings building (texts ++ text ∷ []) (renamings ++ it ∷ [])
renamings_more building texts text renamings it before is joins = record {
  read = zip-more IsRenaming texts renamings text it before.read is;
  olds = distinct_more (λ one. one.old) renamings it before.olds joins.old;
  news = distinct_more (λ one. one.new) renamings it before.news joins.new;
  known = All-push (λ one. IsTrue (has_name building one.new)) renamings it before.known joins.known;
}

-- and so of the texts up to the next one
pub renamings_step : (building : Building) (texts : List (Bor Text)) (index : ℕ) (none : Bor Text) (old new : List Renaming) (it : Renaming)
    → index < length texts → AreRenamings building (map (λ (t : Bor Text). t.now) (take index texts)) old
    → IsRenaming (get_or texts index none).now it → JoinsThem building old it → new ≡ old ++ it ∷ []
    → AreRenamings building (map (λ (t : Bor Text). t.now) (take (index + 1) texts)) new
renamings_step building texts index none old new it below before is joins grown =
    let text = get_or texts index none in
    let taken = ap (map (λ (t : Bor Text). t.now)) (take_more texts index none below)
    ∙ map_pushed (λ (t : Bor Text). t.now) (take index texts) text in
    subst (λ (l : List Renaming). AreRenamings building (map (λ (t : Bor Text). t.now) (take (index + 1) texts)) l) (sym grown)
    (subst (λ (l : List Text). AreRenamings building l (old ++ it ∷ [])) (sym taken)
    (renamings_more building (map (λ (t : Bor Text). t.now) (take index texts)) text.now old it before is joins))
