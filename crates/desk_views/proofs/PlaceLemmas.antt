-- The places that hold a value, one place more.
use Rattle.std.proofs.Common.{◌≡◌, ◌∙◌, ◌+◌, ◌<◌, ℕ, List, [], ◌∷◌, ◌++◌, codes, get_or, length, Option, Some, None, option_map, ap, sym, subst, take}
use Rattle.std.specs.List.{cons_option, filter_map}
use Rattle.std.proofs.lemmas.List.{append-nil, take_more}
use Rattle.std.proofs.lemmas.List.Elements.{filter_map-append}
use Rattle.building.specs.Building.{Building}
use Rattle.desk_why.specs.declared.author.Held.{Held}
use Rattle.desk_why.specs.declared.author.Place.{Place}
use Rattle.points.specs.Texts.{Text}
use Rattle.desk_views.specs.Views.{held_view, place_view}
use Rattle.desk_views.proofs.DividedLemmas.{Stands, Stands-more}

-- one place more, with what it holds
views-more : (b : Building) (places : List Place) (at : ℕ) (place : Place) (held : Option Held) → at < length places
    → place ≡ get_or places at place → place.held ≡ held
    → filter_map (place_view b) (take (at + 1) places)
    ≡ filter_map (place_view b) (take at places) ++ cons_option (option_map (held_view b place.priority) held) []
views-more b places at place held within is holds =
    let views = filter_map (place_view b) (take at places) in
    ap (filter_map (place_view b)) (take_more places at place within)
    ∙ filter_map-append (place_view b) (take at places) (get_or places at place ∷ [])
    ∙ ap (λ (it : Place). views ++ filter_map (place_view b) (it ∷ [])) (sym is)
    ∙ ap (λ (held : Option Held). views ++ cons_option (option_map (held_view b place.priority) held) []) holds

-- one place more, which holds nothing
pub Stands-empty : (b : Building) (places : List Place) (at : ℕ) (place : Place) (written comma : Text) → at < length places
    → place ≡ get_or places at place → place.held ≡ None → Stands (filter_map (place_view b) (take at places)) written comma
    → Stands (filter_map (place_view b) (take (at + 1) places)) written comma
Stands-empty b places at place written comma within is holds stands =
    let views = filter_map (place_view b) (take at places) in
    subst (λ texts. Stands texts written comma) (sym (views-more b places at place None within is holds ∙ append-nil views)) stands

-- one place more, which holds a value
pub Stands-held : (b : Building) (places : List Place) (at : ℕ) (place : Place) (held : Held) (written comma pushed after : Text)
    → at < length places → place ≡ get_or places at place → place.held ≡ Some held
    → Stands (filter_map (place_view b) (take at places)) written comma → pushed ≡ written ++ comma
    → after ≡ pushed ++ held_view b place.priority held → Stands (filter_map (place_view b) (take (at + 1) places)) after (codes ",")
Stands-held b places at place held written comma pushed after within is holds stands first second =
    let views = filter_map (place_view b) (take at places) in
    subst (λ texts. Stands texts after (codes ",")) (sym (views-more b places at place (Some held) within is holds))
    (Stands-more views (held_view b place.priority held) written comma pushed after stands first second)
