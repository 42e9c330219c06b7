-- Texts divided by commas, one text more.
use Rattle.std.proofs.Common.{◌≡◌, ◌∙◌, ◌+◌, ◌<◌, ℕ, List, [], ◌∷◌, ◌++◌, codes, get_or, length, map, refl, ap, sym, subst, append_assoc, take}
use Rattle.std.proofs.lemmas.List.{map-append, take_more}
use Rattle.points.specs.Texts.{Text}
use Rattle.desk_views.specs.Views.{divided}

-- what stands before the next text
abbrev pub comma_behind : List Text → Text
comma_behind [] = []
comma_behind (text ∷ texts) = codes ","

-- the texts are written, and this is to stand before the next one
pub record Stands (texts : List Text) (written comma : Text) : Type 0 where
  pub whole : written ≡ divided texts
  pub behind : comma ≡ comma_behind texts

divided-more : (texts : List Text) (next : Text) → divided (texts ++ next ∷ []) ≡ divided texts ++ (comma_behind texts ++ next)
divided-more [] next = refl
divided-more (text ∷ []) next = refl
divided-more (text ∷ other ∷ texts) next =
    ap (λ rest. text ++ (44 ∷ rest)) (divided-more (other ∷ texts) next)
    ∙ sym (append_assoc text (44 ∷ divided (other ∷ texts)) (44 ∷ next))

comma_behind-more : (texts : List Text) (next : Text) → codes "," ≡ comma_behind (texts ++ next ∷ [])
comma_behind-more [] next = refl
comma_behind-more (text ∷ texts) next = refl

-- one text more, behind what stands before it
pub Stands-more : (texts : List Text) (next written comma pushed after : Text) → Stands texts written comma
    → pushed ≡ written ++ comma → after ≡ pushed ++ next → Stands (texts ++ next ∷ []) after (codes ",")
Stands-more texts next written comma pushed after stands first second = record {
  whole = second ∙ ap (λ text. text ++ next) (first ∙ (ap (λ text. text ++ comma) stands.whole ∙ ap (λ text. divided texts ++ text) stands.behind))
      ∙ append_assoc (divided texts) (comma_behind texts) next
      ∙ sym (divided-more texts next);
  behind = comma_behind-more texts next;
}

-- one item more, each of which has a text
pub Stands-item : {X : Type 0} (text_of : X → Text) (items : List X) (at : ℕ) (item : X) (written comma pushed after : Text) → at < length items
    → item ≡ get_or items at item → Stands (map text_of (take at items)) written comma → pushed ≡ written ++ comma
    → after ≡ pushed ++ text_of item → Stands (map text_of (take (at + 1) items)) after (codes ",")
Stands-item text_of items at item written comma pushed after within is stands first second =
    let so_far = map text_of (take at items) in
    let more : map text_of (take (at + 1) items) ≡ so_far ++ text_of item ∷ [] =
    ap (map text_of) (take_more items at item within) ∙ map-append text_of (take at items) (get_or items at item ∷ [])
    ∙ ap (λ it. so_far ++ text_of it ∷ []) (sym is) in
    subst (λ texts. Stands texts after (codes ",")) (sym more)
    (Stands-more so_far (text_of item) written comma pushed after stands first second)
