-- One delivery more, in what was accepted and in the machine.
use Rattle.std.proofs.Common.{◌≡◌, List, [], ◌∷◌, ◌++◌, refl, sym, ap, ◌∙◌, append_assoc}
use Rattle.std.specs.List.{flat_map}
use Rattle.std.proofs.lemmas.Grind.{flat_map-append}
use Rattle.std.proofs.lemmas.List.{append-nil}
use Rattle.window.specs.Taken as asks
use Rattle.points.specs.Texts.{Text}
use Rattle.building.specs.Building.{Building}
use Rattle.deliveries.specs.declared.delivery.Delivery.{Delivery}
use Rattle.deliveries.specs.Accepted.{asks_of, taken_by}
use Rattle.deliveries.specs.Machine.{Event, Machine, opening_machine, run, step}
use Rattle.deliveries.specs.Events.{acted_on, events_after, machine}
use Rattle.window.proofs.TakenLemmas.{taken-append}

flat_map-push : {A B : Type 0} (f : A → List B) (xs : List A) (x : A) → flat_map f (xs ++ x ∷ []) ≡ flat_map f xs ++ f x
flat_map-push f xs x = flat_map-append f xs (x ∷ []) ∙ ap (λ ys. flat_map f xs ++ ys) (append-nil (f x))

-- what was accepted of a panel, after one delivery more
pub taken_by-push : (b : Building) (p : Text) (E : List Delivery) (d : Delivery)
    → taken_by b p (E ++ d ∷ []) ≡ asks.taken (taken_by b p E) (asks_of b p d)
taken_by-push b p E d =
    ap (asks.taken asks.opening) (flat_map-push (asks_of b p) E d) ∙ taken-append asks.opening (flat_map (asks_of b p) E) (asks_of b p d)

pub run-append : (b : Building) (m : Machine) (xs ys : List Event) → run b m (xs ++ ys) ≡ run b (run b m xs) ys
run-append b m [] ys = refl
run-append b m (x ∷ xs) ys = run-append b (step b m x) xs ys

events_after-push : (b : Building) (earlier ds : List Delivery) (d : Delivery)
    → events_after b earlier (ds ++ d ∷ []) ≡ events_after b earlier ds ++ acted_on b (earlier ++ ds) d
events_after-push b earlier [] d = append-nil (acted_on b earlier d) ∙ ap (λ ds. acted_on b ds d) (sym (append-nil earlier))
events_after-push b earlier (x ∷ ds) d =
    ap (λ es. acted_on b earlier x ++ es) (events_after-push b (earlier ++ x ∷ []) ds d)
    ∙ sym (append_assoc (acted_on b earlier x) (events_after b (earlier ++ x ∷ []) ds) (acted_on b ((earlier ++ x ∷ []) ++ ds) d))
    ∙ ap (λ before. (acted_on b earlier x ++ events_after b (earlier ++ x ∷ []) ds) ++ acted_on b before d)
    (append_assoc earlier (x ∷ []) ds)

-- the machine after one delivery more
pub machine-push : (b : Building) (E : List Delivery) (d : Delivery) → machine b (E ++ d ∷ []) ≡ run b (machine b E) (acted_on b E d)
unfolding machine
machine-push b E d =
    ap (run b opening_machine) (events_after-push b [] E d) ∙ run-append b opening_machine (events_after b [] E) (acted_on b E d)
