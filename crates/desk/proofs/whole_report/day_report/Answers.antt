use Rattle.std.proofs.Common.{◌≡◌, ◌∙◌, ◌++◌, sym, ap, string_bytes}
use Rattle.std.specs.List.{flat_map}
use Rattle.store.specs.Standing.{Content}
use Rattle.store.proofs.ReadLemmas.{kept-read}
use Rattle.desk_settling.specs.Calendars.{Tells, calendars_of}
use Rattle.sched.specs.Calendar.{hold_on}
use Rattle.std.proofs.Common.{subst}
use Rattle.desk.specs.DayReport.{line_of_point}
use Rattle.desk.specs.ReportLines.{schedule_lines}
use Rattle.desk.proofs.ReportLemmas.{all_lines-same, joined-parts, with_items-none}
use Rattle.desk.proofs.whole_report.day_report.Goals as goal

pub returns-clause-text : goal.returns-clause-text
returns-clause-text g c = λ honest imported tells.
    let b = c.args.building.now in
    let day = c.args.day in
    let first = g.S.Store.standing c.args.store.now in
    let second = g.S.Store.standing c.last_tick.new.self in
    let third = g.S.Store.standing c.calendars_today.new.store in
    let today = c.in_ok-today.today.items in
    let third_honest = c.in_ok-push_points.ensures.reads.goes.honest honest in
    let second_honest = c.in_ok-today.ensures.reads.goes.honest third_honest in
    let second_kept = kept-read first second c.in_ok-_last.ensures.reads second_honest in
    let third_kept = kept-read second third c.in_ok-today.ensures.reads third_honest ∙ second_kept in
    let tells_second = subst (λ (content : Content). Tells content.tables.imported imported) (sym second_kept) tells in
    let held : hold_on day today ≡ hold_on day (calendars_of b imported) =
    c.in_ok-today.ensures.today third_honest imported tells_second
    ∙ ap (λ texts. hold_on day (calendars_of b texts)) (with_items-none imported) in
    let schedules : flat_map (schedule_lines c.as_slice.result.now day) c.schedules.result.now
    ≡ flat_map (schedule_lines (calendars_of b imported) day) b.schedules =
    (λ i. flat_map (schedule_lines (c.as_slice.ensures.value i) day) (c.schedules.ensures.schedules i))
    ∙ all_lines-same day today (calendars_of b imported) b.schedules held in
    let points : flat_map (line_of_point third.content.tables.places) c.points.result.now
    ≡ flat_map (line_of_point first.content.tables.places) b.points =
    (λ i. flat_map (line_of_point (third_kept i).tables.places) (c.points.ensures i)) in
    joined-parts _ _ _ _ _ _ c.in_ok-text.ensures (c.in_ok-push_schedules.ensures
    ∙ ap (λ lines. string_bytes c.in_ok-text.text ++ lines) schedules)
    (c.in_ok-push_points.ensures.lines honest ∙ ap (λ lines. string_bytes c.push_schedules.new.text ++ lines) points)
