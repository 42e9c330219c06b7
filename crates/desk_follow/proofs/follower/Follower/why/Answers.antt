use Rattle.std.proofs.Common.{◌++◌}
use Rattle.desk_follow.proofs.FollowedLemmas.{IsHeld-named, why-is}
use Rattle.desk_follow.proofs.follower.Follower.why.Goals as goal

pub returns-clause-why : goal.returns-clause-why
returns-clause-why c = λ earlier deliveries followed named.
    let b = c.args.building.now in
    why-is b earlier deliveries c.args.point.now c.point_now.result
    (c.point_now.ensures.present (earlier ++ deliveries) followed.holds)
    (c.point_now.ensures.places earlier deliveries
    (IsHeld-named b earlier deliveries c.args.self.now.authors c.args.point.now named followed.authors))
    (c.point_now.ensures.next (earlier ++ deliveries) followed.holds)
