use Rattle.std.proofs.Common.{◌≡◌, ◌∙◌, ℤ, ◌++◌, ap, string_bytes, subst, to_z, of_z, w64, rules}
use Rattle.std.proofs.lemmas.Option.{get_or_from_slice_get, slice_get_within}
use Rattle.deliveries.specs.Events.{machine}
use Rattle.desk_why.proofs.EventLemmas.{tables-places}
use Rattle.desk_why.specs.AuthorsTable.{IsHeld}
use Rattle.points.specs.PriorityArray.{Places, present_of}
use Rattle.points.specs.Texts.{Text}
use Rattle.points.specs.declared.point.Point.{Point}
use Rattle.store.specs.Standing.{Content}
use Rattle.desk_follow.proofs.FollowedLemmas.{point-text}
use Rattle.desk_follow.proofs.follower.Follower.push_point.Goals as goal

pub returns-clause-writes : goal.returns-clause-writes
returns-clause-writes c = λ earlier deliveries index followed at.
    let b = c.args.building.now in
    let point = c.args.point.now in
    let all = earlier ++ deliveries in
    let array : c.in_ok-array.field-0 ≡ (machine b all).places point.name =
    c.in_ok-array.ensures.value tt
    ∙ (ap (λ (content : Content). content.tables.places point.name) followed.holds
    ∙ ap (λ (places : Text → Places). places point.name) (tables-places b all)) in
    let whole : to_z w64 (of_z w64 c.present-present.result.0) ≡ c.present-present.result.0 = search rules in
    let same : to_z w64 (of_z w64 point.relinquish_default) ≡ point.relinquish_default = search rules in
    let held = subst (λ (p : Point). IsHeld b earlier deliveries c.args.self.now.authors p.name)
    (get_or_from_slice_get b.points index point point at) (followed.authors index point (slice_get_within b.points index point at)) in
    c.in_ok-push_point_view.ensures ∙ ap (λ more. string_bytes c.args.text.now ++ more)
    (point-text b earlier deliveries point (to_z w64 (of_z w64 c.present-present.result.0)) c.present-present.result.1 _
    ((λ i. (whole i, c.present-present.result.1))
    ∙ (c.present-present.ensures.present
    ∙ (ap (λ (places : Places). present_of places (to_z w64 (of_z w64 point.relinquish_default))) array
    ∙ ap (λ (z : ℤ). present_of ((machine b all).places point.name) z) same)))
    (held c.present-present.result.1))
