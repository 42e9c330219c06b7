use Rattle.std.proofs.Common.{◌∙◌, ◌<◌, ◌&&◌, ◌||◌, None, false, ap, arith, length}
use Rattle.std.specs.Str.{bytes_eq}
use Rattle.desk_adopt.specs.Adopted.{no_entries}
use Rattle.desk_adopt.specs.Renamed.{former}
use Rattle.building.specs.declared.named_calendar.NamedCalendar.{NamedCalendar}
use Rattle.store.specs.Change.{with_each, with_imported}
use Rattle.store.specs.Standing.{Content}
use Rattle.points.specs.Texts.{Text}
use Rattle.store.proofs.ReadLemmas.{Reads-then, kept-read}
use Rattle.desk_adopt.proofs.ItemLemmas.{items-step, or-here, same_name}
use Rattle.desk_adopt.proofs.calendars.adopted_entries.Goals as goal

pub loop-calendar-preserved : goal.loop-calendar-preserved
loop-calendar-preserved g c =
    let so_far = c.loop-calendar.invariant in
    let first = g.S.Store.standing c.args.store.now in
    let old = g.S.Store.standing c.loop-calendar.store in
    let new = g.S.Store.standing c.adopt_entries.new.store in
    let calendar = c.calendar-item.result in
    let had = λ (content : Content) (name text : Text). former c.args.renamings.now content.tables.imported no_entries name text in
    let before_it = λ (q text : Text). with_each with_imported c.loop-calendar.items.items (λ _. no_entries) q text in
    record {
      reads = Reads-then None first old new so_far.reads c.in_ok-adopt_entries.ensures.reads;
      kept = λ honest q text.
          let before = c.in_ok-adopt_entries.ensures.reads.goes.honest honest in
          let same_content = kept-read first old so_far.reads before in
          let put = λ (r : Text). c.in_ok-adopt_entries.ensures.kept honest r text
          ∙ ap (λ (content : Content). (bytes_eq calendar.name r && had content calendar.name text) || before_it r text) same_content in
          let within : c.loop-calendar.calendar-index < length c.args.calendars.now = omega (arith, c.loop-calendar-test.true) in
          items-step (λ (it : NamedCalendar). it.name) c.args.calendars.now (λ name. had first.content name text) false
          c.loop-calendar.calendar-index calendar (λ r. before_it r text)
          (λ r. with_each with_imported c.adopt_entries.new.items.items (λ _. no_entries) r text) within c.calendar-item.is
          (λ r. so_far.kept before r text)
          (λ r other. put r ∙ ap (λ b. (b && had first.content calendar.name text) || before_it r text) other)
          (λ r same was. put r ∙ ap (λ b. (b && had first.content calendar.name text) || before_it r text) same
          ∙ ap (λ name. had first.content name text || before_it r text) (same_name calendar.name r same)
          ∙ or-here (had first.content r text) (before_it r text) was)
          q;
    }
