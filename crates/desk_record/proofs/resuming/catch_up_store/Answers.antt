use Rattle.desk_record.proofs.EndingLemmas.{has-last, has-none, stays-behind}
use Rattle.desk_record.proofs.resuming.catch_up_store.Goals as goal

pub returns-in-None-clause-caught_up : goal.returns-in-None-clause-caught_up
returns-in-None-clause-caught_up g c = λ earlier file honest tells behind.
    has-none c.args.desk.now.building earlier file c.args.ending.now.whole c.args.ending.now.delivery (g.S.Store.standing c.args.desk.now.store)
    c.in-None.is tells behind

pub returns-in-Ok-clause-caught_up : goal.returns-in-Ok-clause-caught_up
returns-in-Ok-clause-caught_up g c = λ earlier file honest tells behind.
    has-last c.args.desk.now.building earlier file c.args.ending.now.whole c.in-Some.delivery (g.S.Store.standing c.args.desk.now.store)
    (g.S.Store.standing c.deliver_again.new.desk.store) c.args.ending.now.delivery c.in-Some.is tells
    (λ list held. c.in-Ok.ensures.made list honest held) behind

pub returns-in-Err-clause-behind : goal.returns-in-Err-clause-behind
returns-in-Err-clause-behind g c = λ earlier file honest tells behind.
    stays-behind c.args.desk.now.building earlier file c.args.ending.now.whole c.in-Some.delivery (g.S.Store.standing c.args.desk.now.store)
    (g.S.Store.standing c.deliver_again.new.desk.store) c.args.ending.now.delivery c.in-Some.is tells
    (λ list held. c.in-Err.ensures.behind list honest held) behind
