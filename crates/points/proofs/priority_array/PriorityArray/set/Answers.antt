use Rattle.std.proofs.Common.{◌≡◌, ◌+◌, ◌<◌, length, ◌∙◌, arith}
use Rattle.points.specs.PriorityArray.{put}
use Rattle.points.proofs.PlacesLemmas.{numbered-set}
use Rattle.points.proofs.priority_array.PriorityArray.set.Goals as goal

pub returns : goal.returns
returns c =
    let within : c.from.result < length c.self.inside.places = omega arith in
    let number : c.from.result + 1 ≡ c.args.priority = omega arith in
    numbered-set c.self.inside.places c.from.result c.args.value within
    ∙ (λ i. put (c.self.view_is i) (number i) c.args.value)
