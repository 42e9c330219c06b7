-- How a store in memory stands.
use Rattle.std.specs.Prelude.{◌≡◌, List, false, IsSome}
use Rattle.std.specs.List.{All}
use Rattle.dates.specs.Entry.{spelling}
use Rattle.store.specs.declared.change.Change.{Change}
use Rattle.store_memory.specs.declared.mem_store.MemStore.{MemStore}
use Rattle.store_memory.specs.declared.spelled_entry.SpelledEntry.{SpelledEntry}
use Rattle.store_memory.specs.Held.{array_at, calendar_slot, imported_of, next_of, places_of, row_of, shown_of, shown_slot, slot_of, table_at}
use Rattle.store.specs.Standing.{Standing, sound}
use Rattle.store.specs.Tables.{Tables}

abbrev pub tables_of : MemStore → Tables
tables_of store = record {
  places = places_of store.arrays;
  next = next_of store.panels;
  row = row_of store.panels;
  shown = shown_of store.shown;
  imported = imported_of store.calendars;
  last_tick = store.last_tick;
}

-- it never fails, and a stop leaves what it holds to whoever still has it
abbrev pub standing_of : MemStore → Standing
standing_of store = record {
  content = sound (tables_of store);
  is_shut = false;
  failures = 0;
  is_honest = Unit {0};
  may_leave = λ content. content ≡ sound (tables_of store);
  cannot_stand = λ asked. false;
}

-- there is an entry for each item of a change
pub record HasRoom (change : Change) (spelled : List SpelledEntry) (store : MemStore) : Type 0 where
  pub nexts : All (λ item. IsSome (table_at store.panels item.panel)) change.nexts.items
  pub rows : All (λ item. IsSome (slot_of store.panels item.panel item.number)) change.rows.items
  pub places : All (λ item. IsSome (array_at store.arrays item.point)) change.places.items
  pub shown : All (λ item. IsSome (shown_slot store.shown item.schedule)) change.shown.items
  pub imported : All (λ x. IsSome (calendar_slot store.calendars x.item.calendar (spelling x.item.entry))) spelled
