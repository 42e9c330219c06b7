-- A delivery that is written down before it is made.
use Rattle.std.specs.Prelude.{List, Result, Ok, Err}
use Rattle.building.specs.Building.{Building}
use Rattle.deliveries.specs.declared.delivery.Delivery.{Delivery}
use Rattle.deliveries.specs.declared.reply.Reply.{Reply}
use Rattle.deliveries.specs.Delivered.{Delivers, Holds}
use Rattle.desk_record.specs.declared.delivering.Undelivered.{Undelivered}
use Rattle.desk_record.specs.declared.delivering.Undelivered.TheVariants.{NoMemory, NotRecorded, Store}
use Rattle.desk_record.specs.declared.recorder.RecordFault.{RecordFault}
use Rattle.desk_record.specs.declared.recorder.RecordFault.TheVariants as recording
use Rattle.store.specs.Standing.{Standing}

-- made or refused as without a record; or not made, since there was no memory to write it down or the record failed
abbrev pub DeliversOrNot : Building → List Delivery → Delivery → Result Reply Undelivered → Standing → Type 0
DeliversOrNot building earlier delivery (Ok reply) now = Delivers building earlier delivery (Ok reply) now
DeliversOrNot building earlier delivery (Err NoMemory) now = Holds building earlier now
DeliversOrNot building earlier delivery (Err NotRecorded) now = Holds building earlier now
DeliversOrNot building earlier delivery (Err (Store fault)) now = Delivers building earlier delivery (Err fault) now

-- what is answered where a delivery is not written down
abbrev pub unrecorded : RecordFault → Undelivered
unrecorded recording.NoMemory = NoMemory
unrecorded recording.Failed = NotRecorded
