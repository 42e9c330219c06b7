use Rattle.std.proofs.Common.{◌≡◌, ◌≤◌, ◌<◌, ◌++◌, List, None, false, length, take, vec_len, vec_capacity}
use Rattle.deliveries.specs.declared.delivery.Delivery.{Delivery}
use Rattle.deliveries.specs.Reply.{replies}
use Rattle.deliveries.specs.Delivered.{Holds}
use Rattle.desk.specs.Headline.{FollowsIn, Stands}
use Rattle.desk.proofs.operating.Desk.run.Given as goal

abbrev pub invariant-loop-delivery : goal.invariant-loop-delivery
invariant-loop-delivery g l =
    let was = g.S.Store.standing l.fn.self.store in
    let now = g.S.Store.standing l.self.store in
    record {
      building : l.self.building ≡ l.fn.self.building;
      count : vec_len l.replies ≡ l.delivery-index;
      sized : length l.replies.items ≡ l.delivery-index;
      room : length l.deliveries ≤ vec_capacity l.replies;
      stands : Stands None was now;
      opened : 0 < l.delivery-index → now.is_shut ≡ false;
      follows : now.is_honest → FollowsIn l.delivery-index was.content now.content;
      so_far : (E : List Delivery) → now.is_honest → Holds l.fn.self.building E was
          → (l.replies.items ≡ replies l.fn.self.building E (take l.delivery-index l.deliveries))
          × Holds l.fn.self.building (E ++ take l.delivery-index l.deliveries) now;
    }
