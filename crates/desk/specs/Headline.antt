-- Deliveries run against a store: their replies, and what a fault or a stop partway leaves.
use Rattle.std.specs.Prelude.{◌≡◌, ◌⊎◌, ℕ, zero, suc, ◌+◌, ◌<◌, ◌≤◌, false, List, ◌++◌, take, length, Option, Some, None}
use Rattle.store.specs.declared.fault.StoreFault.{StoreFault}
use Rattle.store.specs.declared.fault.StoreFault.TheVariants.{NoMemory, Failed, Shut, BadRow}
use Rattle.std.specs.Bool.{IsTrue}
use Rattle.store.specs.declared.change.Change.{Change}
use Rattle.store.specs.Standing.{Content, HasRisen, IsSettled, IsUntouched, Makes, Standing}
use Rattle.building.specs.Building.{Building}
use Rattle.deliveries.specs.declared.delivery.Delivery.{Delivery}
use Rattle.deliveries.specs.declared.reply.Reply.{Reply}
use Rattle.deliveries.specs.Delivered.{Holds, LeavesEither}
use Rattle.deliveries.specs.Reply.{replies}

-- a run of which the first `count` deliveries were answered
abbrev pub Ends : Building → List Delivery → List Delivery → ℕ → Option StoreFault → Standing → Type 0
Ends building earlier deliveries count None now = (count ≡ length deliveries) × Holds building (earlier ++ deliveries) now
Ends building earlier deliveries count (Some NoMemory) now =
    (count < length deliveries) × Holds building (earlier ++ take count deliveries) now
Ends building earlier deliveries count (Some Failed) now =
    (count < length deliveries) × LeavesEither building (earlier ++ take count deliveries) (earlier ++ take (count + 1) deliveries) now
Ends building earlier deliveries count (Some Shut) now = (count ≡ 0) × Holds building earlier now
Ends building earlier deliveries count (Some BadRow) now = ⊥

-- A run: the replies are the definition's for a beginning of the list, in order; the tables are those of what
-- came before and that beginning.
pub record Runs (building : Building) (earlier deliveries : List Delivery) (reported : List Reply) (fault : Option StoreFault)
    (now : Standing) : Type 0 where
  pub count : ℕ
  pub within : count ≤ length deliveries
  pub replies_are : reported ≡ replies building earlier (take count deliveries)
  pub ends : Ends building earlier deliveries count fault now

-- How the store stands after a run: S2 shuts it and is counted; S3 comes of a store that was shut, and such a
-- store is left untouched; a stop at an open store leaves what it holds, if it was so before.
pub record Stands (fault : Option StoreFault) (old new : Standing) : Type 0 where
  pub honest : new.is_honest → old.is_honest
  pub shut : fault ≡ Some Shut → IsTrue old.is_shut
  pub untouched : new.is_honest → IsTrue old.is_shut → IsUntouched old new
  pub goes_on : (fault ≡ Some Failed → ⊥) → new.is_shut ≡ old.is_shut
  pub steady : (fault ≡ Some Failed → ⊥) → new.failures ≡ old.failures
  pub failed : fault ≡ Some Failed → IsTrue new.is_shut × HasRisen old.failures new.failures
  pub settled : IsSettled old → IsSettled new

-- one content after another by so many steps, each a whole change or none
abbrev pub FollowsIn : ℕ → Content → Content → Type 0
FollowsIn zero old new = new ≡ old
FollowsIn (suc steps) old new = (mid : Content) × FollowsIn steps old mid × ((new ≡ mid) ⊎ ((change : Change) × Makes change mid new))

-- A run over whatever a store held: each delivery that was answered made one change or none, and that at which the run
-- stopped made none, or after a failure a stop leaves what was held without its change or with it.
pub record ChangesEach (reported : List Reply) (fault : Option StoreFault) (old new : Standing) : Type 0 where
  pub held : new.is_honest → (fault ≡ Some Failed → ⊥) → FollowsIn (length reported) old.content new.content
  pub left : new.is_honest → IsSettled old → old.is_shut ≡ false → (content : Content) → new.may_leave content
      → FollowsIn (length reported) old.content content ⊎ FollowsIn (length reported + 1) old.content content
