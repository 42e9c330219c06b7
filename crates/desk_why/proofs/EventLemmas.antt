-- One delivery more, in what a place holds.
use Rattle.std.proofs.Common.{◌≡◌, ℕ, ℤ, List, [], ◌∷◌, ◌++◌, map, Option, refl, sym, ap, ◌∙◌}
use Rattle.building.specs.Building.{Building}
use Rattle.deliveries.specs.declared.delivery.Delivery.{Delivery}
use Rattle.deliveries.specs.Events.{acted_on, events_after, events_of, machine}
use Rattle.deliveries.specs.Tables.{tables}
use Rattle.deliveries.specs.Machine.{Command, Event, Machine, run, step}
use Rattle.deliveries.proofs.MachineSame.{events_after-append, machine-append}
use Rattle.std.proofs.lemmas.List.{append-nil}
use Rattle.points.specs.declared.numbered_row.NumberedRow.{NumberedRow}
use Rattle.points.specs.Texts.{Text}
use Rattle.window.specs.Drain.{contents_of}
use Rattle.desk_why.specs.declared.author.Held.{Held}
use Rattle.desk_why.specs.declared.authors.Authors.{Authors}
use Rattle.desk_why.specs.Authors.{held_after, held_after_command, held_along, held_before, held_of, places_of, priorities}
use Rattle.desk_why.specs.AuthorsTable.{IsHeld, held_in}
use Rattle.desk_why.specs.Steps.{Becomes, held_after_run}

pub held_along-append : (b : Building) (m : Machine) (xs ys : List Event) (point : Text) (priority : ℕ) (held : Option Held)
    → held_along b m (xs ++ ys) point priority held ≡ held_along b (run b m xs) ys point priority (held_along b m xs point priority held)
held_along-append b m [] ys point priority held = refl
held_along-append b m (x ∷ xs) ys point priority held =
    held_along-append b (step b m x) xs ys point priority (held_after b m x point priority held)

-- where a record that begins behind `first` goes on with one delivery more
pub held_of-push : (b : Building) (first E : List Delivery) (d : Delivery) (point : Text) (priority : ℕ)
    → held_of b first (E ++ d ∷ []) point priority
    ≡ held_along b (machine b (first ++ E)) (acted_on b (first ++ E) d) point priority (held_of b first E point priority)
unfolding held_of
held_of-push b first E d point priority =
    let begun = machine b first in
    let held = held_before (begun.places point) priority in
    let acted = acted_on b (first ++ E) d in
    ap (λ events. held_along b begun events point priority held)
    (events_after-append b first E (d ∷ []) ∙ ap (λ events. events_after b first E ++ events) (append-nil acted))
    ∙ (held_along-append b begun (events_after b first E) acted point priority held
    ∙ ap (λ (m : Machine). held_along b m acted point priority (held_along b begun (events_after b first E) point priority held))
    (sym (machine-append b first E)))

-- a point's places with one delivery more
pub IsHeld-push : (b : Building) (first E : List Delivery) (d : Delivery) (old new : Authors) (point : Text)
    → Becomes (held_along b (machine b (first ++ E)) (acted_on b (first ++ E) d)) old new
    → IsHeld b first E old point → IsHeld b first (E ++ d ∷ []) new point
IsHeld-push b first E d old new point along held = λ priority.
    along point priority
    ∙ (ap (held_along b (machine b (first ++ E)) (acted_on b (first ++ E) d) point priority) (held priority)
    ∙ sym (held_of-push b first E d point priority))

-- where a record begins, before any of its deliveries
pub held_of-none : (b : Building) (first : List Delivery) (point : Text) (priority : ℕ)
    → held_before ((machine b first).places point) priority ≡ held_of b first [] point priority
unfolding held_of
held_of-none b first point priority = refl

-- the sixteen places that a table has
pub places-held : (b : Building) (first E : List Delivery) (authors : Authors) (point : Text) → IsHeld b first E authors point
    → map (λ priority. record { priority = priority; held = held_in authors point priority }) priorities ≡ places_of b first E point
unfolding places_of
places-held b first E authors point held = λ i. map (λ priority. record { priority = priority; held = held priority i }) priorities

pub tables-places : (b : Building) (E : List Delivery) → (tables b E).places ≡ (machine b E).places
unfolding tables
tables-places b E = refl

-- commands that are acted on, one after another
pub held_along-run : (b : Building) (m : Machine) (panel : Text) (run : List NumberedRow) (last : Option ℤ) (point : Text) (priority : ℕ)
    (held : Option Held) → last ≡ m.last_tick
    → held_after_run b last panel run point priority held
    ≡ held_along b m (events_of panel (contents_of run)) point priority held
held_along-run b m panel [] last point priority held at = refl
held_along-run b m panel (entry ∷ run) last point priority held at =
    let event = Command panel entry.number entry.row.content in
    held_along-run b (step b m event) panel run last point priority _ at
    ∙ ap (held_along b (step b m event) (events_of panel (contents_of run)) point priority)
    (ap (λ (tick : Option ℤ). held_after_command b tick panel entry.number entry.row.content point priority held) at)
