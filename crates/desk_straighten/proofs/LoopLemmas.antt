-- One delivery more, and one panel more.
use Rattle.std.proofs.Common.{◌≡◌, ℕ, ◌+◌, ◌<◌, List, [], ◌∷◌, ◌++◌, length, take, get_or, sym, ap, ◌∙◌, append_assoc}
use Rattle.std.specs.List.{flat_map}
use Rattle.std.proofs.lemmas.Grind.{flat_map-append}
use Rattle.std.proofs.lemmas.List.{append-nil, take_more}
use Rattle.building.specs.Building.{Building}
use Rattle.deliveries.specs.declared.delivery.Delivery.{Delivery}
use Rattle.points.specs.declared.panel.Panel.{Panel}
use Rattle.deliveries.specs.StraightList.{parked_of, straightened_after, straightened_by}

-- the items up to the next one
pub taken-more : {A : Type 0} (all : List A) (at : ℕ) (item : A) → at < length all → item ≡ get_or all at item
    → take (at + 1) all ≡ take at all ++ item ∷ []
taken-more all at item within is = take_more all at item within ∙ ap (λ x. take at all ++ x ∷ []) (sym is)

straightened_after-push : (b : Building) (E ds : List Delivery) (d : Delivery)
    → straightened_after b E (ds ++ d ∷ []) ≡ straightened_after b E ds ++ straightened_by b (E ++ ds) d
straightened_after-push b E [] d = append-nil (straightened_by b E d) ∙ ap (λ F. straightened_by b F d) (sym (append-nil E))
straightened_after-push b E (x ∷ ds) d =
    ap (λ more. straightened_by b E x ++ more) (straightened_after-push b (E ++ x ∷ []) ds d)
    ∙ (sym (append_assoc (straightened_by b E x) (straightened_after b (E ++ x ∷ []) ds) (straightened_by b ((E ++ x ∷ []) ++ ds) d))
    ∙ ap (λ F. straightened_after b E (x ∷ ds) ++ straightened_by b F d) (append_assoc E (x ∷ []) ds))

-- the list with one delivery more
pub straightened-more : (b : Building) (ds more : List Delivery) (d : Delivery) (old new : List Delivery) → more ≡ ds ++ d ∷ []
    → old ≡ straightened_after b [] ds → new ≡ old ++ straightened_by b ds d → new ≡ straightened_after b [] more
straightened-more b ds more d old new is so_far grown =
    grown ∙ (ap (λ xs. xs ++ straightened_by b ds d) so_far
    ∙ (sym (straightened_after-push b [] ds d) ∙ ap (straightened_after b []) (sym is)))

pub panels-more : (b : Building) (L : List Delivery) (ps more : List Panel) (panel : Panel) (first old new : List Delivery)
    → more ≡ ps ++ panel ∷ [] → old ≡ first ++ flat_map (parked_of b L) ps → new ≡ old ++ parked_of b L panel
    → new ≡ first ++ flat_map (parked_of b L) more
panels-more b L ps more panel first old new is so_far grown =
    grown ∙ (ap (λ xs. xs ++ parked_of b L panel) so_far
    ∙ (append_assoc first (flat_map (parked_of b L) ps) (parked_of b L panel)
    ∙ ap (λ xs. first ++ xs) (ap (λ xs. flat_map (parked_of b L) ps ++ xs) (sym (append-nil (parked_of b L panel)))
    ∙ (sym (flat_map-append (parked_of b L) ps (panel ∷ [])) ∙ ap (flat_map (parked_of b L)) (sym is)))))
