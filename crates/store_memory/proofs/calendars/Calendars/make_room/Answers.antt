use Rattle.std.proofs.Common.{◌∙◌, ◌<◌, IsSome, length, subst, arith}
use Rattle.store_memory.specs.declared.spelled_entry.SpelledEntry.{SpelledEntry}
use Rattle.store_memory.specs.Held.{calendar_slot}
use Rattle.dates.specs.Entry.{spelling}
use Rattle.store_memory.proofs.HeldLemmas.{room-step}
use Rattle.store_memory.proofs.calendars.Calendars.make_room.Goals as goal

pub loop-entry-preserved : goal.loop-entry-preserved
loop-entry-preserved c =
    let below : c.loop-entry.entry-index < length c.args.spelled.now = omega arith in
    record {
      room = room-step (λ (x : SpelledEntry). IsSome (calendar_slot c.loop-entry.self x.item.calendar (spelling x.item.entry))) (λ
          (x : SpelledEntry). IsSome (calendar_slot c.make_slot.new.self x.item.calendar (spelling x.item.entry)))
          c.args.spelled.now c.loop-entry.entry-index
          c.entry-item.result below c.entry-item.is (λ (x : SpelledEntry) here. c.make_slot.ensures.stays x.item.calendar
          (spelling x.item.entry)
          (c.make_table.ensures.stays x.item.calendar (spelling x.item.entry) here)) c.loop-entry.invariant.room
          (subst (λ text. IsSome
          (calendar_slot c.make_slot.new.self c.entry-item.result.item.calendar text)) c.entry-item.result.spells
          c.in_ok-make_slot.ensures.room);
      same = λ q text. c.make_slot.ensures.same q text ∙ c.make_table.ensures.same q text ∙ c.loop-entry.invariant.same q text;
    }
