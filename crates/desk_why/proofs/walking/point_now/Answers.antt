use Rattle.std.proofs.Common.{◌≡◌, ◌∙◌, ℤ, sym, ap, to_z, of_z, w64, rules}
use Rattle.store_memory.specs.Memory.{standing_of}
use Rattle.deliveries.specs.Events.{machine}
use Rattle.points.specs.PriorityArray.{Places, present_of}
use Rattle.store.specs.Standing.{Content}
use Rattle.points.specs.Texts.{Text}
use Rattle.desk_why.proofs.EventLemmas.{places-held, tables-places}
use Rattle.desk_why.proofs.NextLemmas.{changes-held}
use Rattle.desk_why.proofs.walking.point_now.Goals as goal

pub returns-clause-same : goal.returns-clause-same
returns-clause-same c = c.in_ok-next.ensures.same ∙ c.in_ok-array.ensures.reads.kept tt (λ e. cc)

pub returns-clause-present : goal.returns-clause-present
returns-clause-present c = λ E held.
    let b = c.args.building.now in
    let name = c.args.point.now.name in
    let array : c.in_ok-array.field-0 ≡ (machine b E).places name =
    c.in_ok-array.ensures.value tt
    ∙ (ap (λ (content : Content). content.tables.places name) held
    ∙ ap (λ (places : Text → Places). places name) (tables-places b E)) in
    let whole : to_z w64 (of_z w64 c.present-present.result.0) ≡ c.present-present.result.0 = search rules in
    let default = c.args.point.now.relinquish_default in
    let same : to_z w64 (of_z w64 default) ≡ default = search rules in
    (λ i. (whole i, c.present-present.result.1))
    ∙ (c.present-present.ensures.present
    ∙ (ap (λ (places : Places). present_of places (to_z w64 (of_z w64 default))) array
    ∙ ap (λ (z : ℤ). present_of ((machine b E).places name) z) same))

pub returns-clause-places : goal.returns-clause-places
returns-clause-places c = λ E ds held.
    c.in_ok-places.ensures ∙ places-held c.args.building.now E ds c.args.authors.now c.args.point.now.name held

pub returns-clause-next : goal.returns-clause-next
returns-clause-next c = λ E held.
    changes-held c.args.building.now E (standing_of c.array.new.self) (c.in_ok-array.ensures.reads.kept tt (λ e. cc) ∙ held)
    c.args.point.now.name c.in_ok-next.next.items c.in_ok-next.ensures.changes
