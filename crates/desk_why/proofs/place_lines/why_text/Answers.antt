use Rattle.std.proofs.Common.{◌≡◌, ◌∙◌, ℕ, ℤ, List, ◌++◌, ap, rules, string_bytes, to_z, of_z, w64}
use Rattle.std.specs.List.{flat_map}
use Rattle.desk_why.specs.declared.author.Place.{Place}
use Rattle.desk_why.specs.declared.scheduled.ScheduledChange.{ScheduledChange}
use Rattle.points.specs.PointLine.{point_line}
use Rattle.desk_why.specs.WhyLines.{default_line, next_line, place_line}
use Rattle.desk_why.proofs.JoinLemmas.{joined}
use Rattle.desk_why.proofs.place_lines.why_text.Goals as goal

pub returns : goal.returns
returns c =
    let b = c.args.building.now in
    let name = c.args.point.now.name in
    let present = c.args.at_end.now.present in
    let priority = c.args.at_end.now.priority in
    let default = c.args.point.now.relinquish_default in
    let presents : to_z w64 (of_z w64 present) ≡ present = search rules in
    let defaults : to_z w64 (of_z w64 default) ≡ default = search rules in
    let first = string_bytes c.in_ok-text.text in
    let second = string_bytes c.push_places.new.text in
    let third = string_bytes c.push_str.new.self in
    let fourth = string_bytes c.push_changes.new.text in
    let pushed : third ≡ second ++ c.as_str.result.now = search rules in
    joined first second third fourth (point_line name present priority)
    (flat_map (place_line b) c.args.at_end.now.places.items) (default_line default)
    (flat_map (next_line b) c.args.at_end.now.next.items)
    (c.in_ok-text.ensures ∙ ap (λ (z : ℤ). point_line name z priority) presents)
    (c.in_ok-push_places.ensures ∙ ap (λ (places : List Place). first ++ flat_map (place_line b) places) c.as_slice.ensures.value)
    (pushed ∙ ap (λ (line : List ℕ). second ++ line) (c.as_str.ensures.value ∙ (c.in_ok-line.ensures ∙ ap default_line defaults)))
    (c.in_ok-push_changes.ensures
    ∙ ap (λ (changes : List ScheduledChange). third ++ flat_map (next_line b) changes) c.as_slice-2.ensures.value)
