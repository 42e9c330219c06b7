-- The rows that a panel's next number has passed are the commands that are acted on.
use Rattle.std.proofs.Common.{◌≡◌, ℕ, ℤ, List, [], ◌∷◌, ◌++◌, Option}
use Rattle.std.proofs.Common.{sym, ap, ◌∙◌}
use Rattle.building.specs.Building.{Building}
use Rattle.deliveries.specs.declared.delivery.Delivery.{Delivery}
use Rattle.deliveries.specs.Accepted.{panel_of, taken_by}
use Rattle.deliveries.specs.Delivered.{Holds}
use Rattle.deliveries.specs.Events.{acted_on, events_of, machine}
use Rattle.deliveries.specs.Tables.{tables}
use Rattle.deliveries.proofs.ClockLemmas.{machine-last_tick, tables-last_tick}
use Rattle.deliveries.proofs.StepLemmas.{IsSent, acted_on-sent, next-tables}
use Rattle.points.specs.declared.numbered_row.NumberedRow.{NumberedRow}
use Rattle.points.specs.Run.{rows_between}
use Rattle.store.specs.Standing.{Content as a_content, Standing}
use Rattle.window.specs.Applied.{applied}
use Rattle.window.specs.Drain.{contents_of}
use Rattle.window.specs.Taken as asks
use Rattle.desk_straighten.proofs.StoreLemmas.{contents-held}
use Rattle.desk_why.specs.declared.authors.Authors.{Authors}
use Rattle.desk_why.specs.Authors.{held_along}
use Rattle.desk_why.specs.AuthorsTable.{held_in}
use Rattle.desk_why.specs.Steps.{Becomes, held_after_run}
use Rattle.desk_why.proofs.EventLemmas.{held_along-run}

-- what the tables hold after a delivery, from the next number before it on
passed-applied : (b : Building) (E : List Delivery) (d : Delivery) (s : Standing) (before : ℕ) → Holds b (E ++ d ∷ []) s
    → before ≡ asks.front (taken_by b (panel_of d) E)
    → contents_of (rows_between (s.content.tables.row (panel_of d)) before (s.content.tables.next (panel_of d)))
    ≡ applied (taken_by b (panel_of d) E) (taken_by b (panel_of d) (E ++ d ∷ []))
passed-applied b E d s before held at =
    let p = panel_of d in
    let now = taken_by b p (E ++ d ∷ []) in
    ap (λ (c : a_content). contents_of (rows_between (c.tables.row p) before (c.tables.next p))) held
    ∙ (ap (λ (end : ℕ). contents_of (rows_between ((tables b (E ++ d ∷ [])).row p) before end)) (next-tables b (E ++ d ∷ []) p)
    ∙ (ap (λ (from : ℕ). contents_of (rows_between ((tables b (E ++ d ∷ [])).row p) from (asks.front now))) at
    ∙ contents-held b p E d))

-- what a panel's command or skip has acted on, in what a place holds
pub passed-along : (b : Building) (E : List Delivery) (d : Delivery) (first after : Standing) (before : ℕ) (last : Option ℤ)
    (run : List NumberedRow) → IsSent d → Holds b E first → Holds b (E ++ d ∷ []) after
    → last ≡ first.content.tables.last_tick → before ≡ asks.front (taken_by b (panel_of d) E)
    → run ≡ rows_between (after.content.tables.row (panel_of d)) before (after.content.tables.next (panel_of d))
    → (old new : Authors) → Becomes (held_after_run b last (panel_of d) run) old new
    → Becomes (held_along b (machine b E) (acted_on b E d)) old new
passed-along b E d first after before last run sent held done at next run_is old new becomes point priority =
    let m = machine b E in
    let was = held_in old point priority in
    let tick : last ≡ m.last_tick =
    at ∙ (ap (λ (content : a_content). content.tables.last_tick) held ∙ (tables-last_tick b E ∙ sym (machine-last_tick b E))) in
    becomes point priority
    ∙ (held_along-run b m (panel_of d) run last point priority was tick
    ∙ (ap (λ contents. held_along b m (events_of (panel_of d) contents) point priority was)
    (ap contents_of run_is ∙ passed-applied b E d after before done next)
    ∙ ap (λ events. held_along b m events point priority was) (sym (acted_on-sent b E d sent))))
