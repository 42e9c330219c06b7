use Rattle.std.proofs.Common.{◌∙◌, ◌++◌}
use Rattle.std.proofs.lemmas.Result.{IfOk-weaker}
use Rattle.store_memory.specs.Memory.{standing_of}
use Rattle.desk_follow.proofs.FollowedLemmas.{last-held}
use Rattle.desk_follow.proofs.follower.Follower.last_tick.Goals as goal

pub returns-clause-last : goal.returns-clause-last
returns-clause-last c = λ b earlier deliveries followed.
    IfOk-weaker c.last_tick.result _ _ (λ last is. is ∙ last-held b (earlier ++ deliveries) (standing_of c.args.self.now.store) followed.holds)
    (c.last_tick.ensures.value tt)
