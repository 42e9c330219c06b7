use Rattle.store_memory.specs.Held.{imported_of, places_of, shown_of}
use Rattle.store_memory.proofs.HeldLemmas.{OnOk-then}
use Rattle.store_memory.proofs.PanelLemmas.{Grows-then}
use Rattle.store_memory.proofs.mem_store.MemStore.make_room.Goals as goal

pub returns-in_err-make_room_for_nexts-clause-same : goal.returns-in_err-make_room_for_nexts-clause-same
returns-in_err-make_room_for_nexts-clause-same c = λ i. record {
  places = places_of c.args.self.now.arrays;
  next = λ q. c.make_room_for_nexts.ensures.grows.next q i;
  row = λ q n. c.make_room_for_nexts.ensures.grows.rows q n i;
  shown = shown_of c.args.self.now.shown;
  imported = imported_of c.args.self.now.calendars;
  last_tick = c.args.self.now.last_tick;
}

pub returns-in_err-make_room_for_rows-clause-same : goal.returns-in_err-make_room_for_rows-clause-same
returns-in_err-make_room_for_rows-clause-same c = λ i. record {
  places = places_of c.args.self.now.arrays;
  next = λ q. (Grows-then _ _ _ c.make_room_for_nexts.ensures.grows c.make_room_for_rows.ensures.grows).next q i;
  row = λ q n. (Grows-then _ _ _ c.make_room_for_nexts.ensures.grows c.make_room_for_rows.ensures.grows).rows q n i;
  shown = shown_of c.args.self.now.shown;
  imported = imported_of c.args.self.now.calendars;
  last_tick = c.args.self.now.last_tick;
}

pub returns-in_err-make_room-clause-same : goal.returns-in_err-make_room-clause-same
returns-in_err-make_room-clause-same c = λ i. record {
  places = λ q. c.make_room.ensures.same q i;
  next = λ q. (Grows-then _ _ _ c.make_room_for_nexts.ensures.grows c.make_room_for_rows.ensures.grows).next q i;
  row = λ q n. (Grows-then _ _ _ c.make_room_for_nexts.ensures.grows c.make_room_for_rows.ensures.grows).rows q n i;
  shown = shown_of c.args.self.now.shown;
  imported = imported_of c.args.self.now.calendars;
  last_tick = c.args.self.now.last_tick;
}

pub returns-in_err-make_room-2-clause-same : goal.returns-in_err-make_room-2-clause-same
returns-in_err-make_room-2-clause-same c = λ i. record {
  places = λ q. c.make_room.ensures.same q i;
  next = λ q. (Grows-then _ _ _ c.make_room_for_nexts.ensures.grows c.make_room_for_rows.ensures.grows).next q i;
  row = λ q n. (Grows-then _ _ _ c.make_room_for_nexts.ensures.grows c.make_room_for_rows.ensures.grows).rows q n i;
  shown = λ q. c.make_room-2.ensures.same q i;
  imported = imported_of c.args.self.now.calendars;
  last_tick = c.args.self.now.last_tick;
}

pub returns-clause-same : goal.returns-clause-same
returns-clause-same c = λ i. record {
  places = λ q. c.make_room.ensures.same q i;
  next = λ q. (Grows-then _ _ _ c.make_room_for_nexts.ensures.grows c.make_room_for_rows.ensures.grows).next q i;
  row = λ q n. (Grows-then _ _ _ c.make_room_for_nexts.ensures.grows c.make_room_for_rows.ensures.grows).rows q n i;
  shown = λ q. c.make_room-2.ensures.same q i;
  imported = λ q text. c.make_room-3.ensures.same q text i;
  last_tick = c.args.self.now.last_tick;
}

pub returns-clause-room : goal.returns-clause-room
returns-clause-room c =
    let nexts = rw c.deref.ensures.value at c.in_ok-make_room_for_nexts.ensures.room in
    let rows = rw c.deref-2.ensures.value at c.in_ok-make_room_for_rows.ensures.room in
    let places = rw c.deref-3.ensures.value at c.in_ok-make_room.ensures.room in
    let shown = rw c.deref-4.ensures.value at c.in_ok-make_room-2.ensures.room in
    OnOk-then c.make_room-3.result _ _ c.make_room-3.ensures.room (λ imported. record {
      nexts = λ k d below. c.make_room_for_rows.ensures.grows.room.tables _ (nexts k d below);
      rows = rows;
      places = places;
      shown = shown;
      imported = imported;
    })
