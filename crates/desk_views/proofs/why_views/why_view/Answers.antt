use Rattle.std.proofs.Common.{◌≡◌, rules, to_z, of_z, w64}
use Rattle.desk_views.proofs.why_views.why_view.Goals as goal

pub returns : goal.returns
returns c =
    let present = c.args.now.now.present in
    let default = c.args.point.now.relinquish_default in
    let presents : to_z w64 (of_z w64 present) ≡ present = search rules in
    let defaults : to_z w64 (of_z w64 default) ≡ default = search rules in
    rw (
      c.in_ok-next.ensures,
      c.as_slice.ensures.value,
      c.in_ok-places.ensures,
      c.as_slice-2.ensures.value,
      c.in_ok-present.ensures,
      presents,
      defaults,
    ) at c.format.ensures.ok
