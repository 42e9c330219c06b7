use Rattle.std.proofs.Common.{◌≡◌, None, false, take}
use Rattle.desk_adopt.specs.Adopted.{no_entries}
use Rattle.desk_adopt.specs.Renamed.{at_items, former}
use Rattle.building.specs.declared.named_calendar.NamedCalendar.{NamedCalendar}
use Rattle.store.specs.Change.{with_each, with_imported}
use Rattle.store.specs.Standing.{Reads}
use Rattle.points.specs.Texts.{Text}
use Rattle.desk_adopt.proofs.calendars.adopted_entries.Given as goal

-- the calendars so far
abbrev pub invariant-loop-calendar : goal.invariant-loop-calendar
invariant-loop-calendar g l =
    let first = g.S.Store.standing l.initial.store in
    record {
      reads : Reads None first (g.S.Store.standing l.store);
      kept : (g.S.Store.standing l.store).is_honest → (q text : Text) → with_each with_imported l.items.items (λ _. no_entries) q text
          ≡ at_items (λ (it : NamedCalendar). it.name) (take l.calendar-index l.calendars)
          (λ name. former l.renamings first.content.tables.imported no_entries name text) false q;
    }
