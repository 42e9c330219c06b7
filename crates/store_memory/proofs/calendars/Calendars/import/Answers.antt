use Rattle.std.proofs.Common.{◌∙◌, ◌||◌, sym, ap, Some, IsSome, is_some}
use Rattle.std.specs.BTreeMap as tree
use Rattle.std.specs.Cmp.Lexicographic.{slice_cmp}
use Rattle.std.specs.Ordering.{nat_cmp}
use Rattle.std.specs.Str.{bytes_eq}
use Rattle.dates.specs.Entry.{spelling}
use Rattle.store_memory.specs.Held.{calendar_at, text_slot}
use Rattle.store_memory.specs.Slots.{flatten}
use Rattle.store_memory.proofs.HeldLemmas.{Alters, by_bytes, changed, first_or, written}
use Rattle.store_memory.proofs.calendars.Calendars.import.Goals.{After-import}
use Rattle.store_memory.proofs.calendars.Calendars.import.Goals as goal

alters : (c : After-import) → Alters c.args.spelled.now.item.calendar (Some c.in-Some.table.now) c.import.new.self (calendar_at c.args.self.now)
    (tree.get (slice_cmp nat_cmp) (c.get_mut.follows.lender c.import.new.self))
alters c = record {
  before = sym c.in-Some.ensures.value;
  after = λ q. by_bytes _ _ c.args.spelled.now.item.calendar q _
      (((c.get_mut.follows.holds c.import.new.self).3 (ap is_some (sym c.in-Some.ensures.value))).0 q);
}

pub returns-in-Some-clause-imported : goal.returns-in-Some-clause-imported
returns-in-Some-clause-imported c = λ q text.
    let spelled = spelling c.args.spelled.now.item.entry in
    written (alters (goal.at.returns-in-Some-clause-imported c).After-import) (λ o. is_some (flatten (text_slot o text)))
    (λ has. bytes_eq spelled text || has) q (c.import.ensures.has text)
    ∙ first_or (bytes_eq c.args.spelled.now.item.calendar q) (bytes_eq spelled text)
    (is_some (flatten (text_slot (calendar_at c.args.self.now q) text)))

pub returns-in-Some-clause-stays : goal.returns-in-Some-clause-stays
returns-in-Some-clause-stays c = λ q text.
    changed (alters (goal.at.returns-in-Some-clause-stays c).After-import) (λ o n. IsSome (text_slot o text) → IsSome (text_slot n text)) q
    (c.import.ensures.stays text) (λ o here. here)
