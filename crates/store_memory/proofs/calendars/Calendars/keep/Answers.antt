use Rattle.std.proofs.Common.{◌∙◌, ◌&&◌, ◌||◌, Bool, Some, sym, ap, map, is_some}
use Rattle.std.specs.BTreeMap as tree
use Rattle.std.specs.Cmp.Lexicographic.{slice_cmp}
use Rattle.std.specs.List.{list_any}
use Rattle.std.specs.Ordering.{nat_cmp}
use Rattle.std.specs.Str.{bytes_eq}
use Rattle.dates.specs.Entry.{spelling}
use Rattle.store_memory.specs.Held.{calendar_at, text_slot}
use Rattle.store_memory.specs.Slots.{flatten}
use Rattle.store_memory.proofs.HeldLemmas.{Alters, OnOk-then, by_bytes, first_or, written}
use Rattle.store_memory.proofs.calendars.Calendars.keep.Goals.{After-keep_each}
use Rattle.store_memory.proofs.calendars.Calendars.keep.Goals as goal

alters : (c : After-keep_each) → Alters c.args.calendar.now (Some c.in-Some.table.now) c.keep_each.new.self (calendar_at c.make_table.new.self)
    (tree.get (slice_cmp nat_cmp) (c.get_mut.follows.lender c.keep_each.new.self))
alters c = record {
  before = sym c.in-Some.ensures.value;
  after = λ q. by_bytes _ _ c.args.calendar.now q _
      (((c.get_mut.follows.holds c.keep_each.new.self).3 (ap is_some (sym c.in-Some.ensures.value))).0 q);
}

pub returns-in-Some : goal.returns-in-Some
returns-in-Some c = OnOk-then c.keep_each.result _ _ c.keep_each.ensures (λ has q text.
    let calendar = c.args.calendar.now in
    let among = list_any (bytes_eq text) (map spelling c.args.entries.now) in
    written (alters (goal.at.returns-in-Some c).After-keep_each) (λ o. is_some (flatten (text_slot o text))) (λ stood. among || stood) q (has text)
    ∙ first_or (bytes_eq calendar q) among (is_some (flatten (text_slot (calendar_at c.make_table.new.self q) text)))
    ∙ ap (λ (stood : Bool). (bytes_eq calendar q && among) || stood) (c.in_ok-make_table.ensures.same q text))
