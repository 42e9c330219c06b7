use Rattle.store_memory.specs.Held.{array_at, calendar_at, shown_slot, stands_calendar, stands_panel, stands_point, table_at}
use Rattle.store.specs.Listed.{HasCalendar, HasPanel, HasPoint, HasSchedule}
use Rattle.store_memory.specs.Memory.{tables_of}
use Rattle.store_memory.specs.Slots.{IsStanding}
use Rattle.store_memory.proofs.StandLemmas.{calendar_stands, panel_stands, point_stands}
use Rattle.store_memory.proofs.TextLemmas.{AreTexts-by, standing_some}
use Rattle.std.proofs.Common.{is_some}
use Rattle.store_memory.proofs.mem_store.MemStoreStore.names.Goals as goal

pub returns-clause-value : goal.returns-clause-value
returns-clause-value c = λ honest.
    let store = c.args.self.now in
    record {
      panels = AreTexts-by (λ q. IsStanding stands_panel (table_at store.panels q)) (HasPanel (tables_of store)) c.in_ok-names.field-0.items
          (λ q. panel_stands (table_at store.panels q)) c.in_ok-names.ensures;
      points =
          AreTexts-by (λ q. IsStanding stands_point (array_at store.arrays q)) (HasPoint (tables_of store)) c.in_ok-names-2.field-0.items
          (λ q. point_stands (array_at store.arrays q)) c.in_ok-names-2.ensures;
      schedules =
          AreTexts-by (λ q. IsStanding is_some (shown_slot store.shown q)) (HasSchedule (tables_of store)) c.in_ok-names-3.field-0.items
          (λ q. standing_some (shown_slot store.shown q)) c.in_ok-names-3.ensures;
      calendars =
          AreTexts-by (λ q. IsStanding stands_calendar (calendar_at store.calendars q)) (HasCalendar (tables_of store))
          c.in_ok-names-4.field-0.items
          (λ q. calendar_stands (calendar_at store.calendars q)) c.in_ok-names-4.ensures;
    }
