use Rattle.std.proofs.Common.{◌≡◌, ◌∙◌, Some, ap, option_map, slice_get, sym, subst, ◌++◌, OnOk}
use Rattle.deliveries.specs.Machine.{added_to}
use Rattle.desk_settling.specs.Calendars.{with_items}
use Rattle.desk_clock.proofs.KnowingLemmas.{file-here}
use Rattle.desk_clock.proofs.adding.add_row.Goals as goal

pub returns-in-Some-clause-knows : goal.returns-in-Some-clause-knows
returns-in-Some-clause-knows g c = λ honest knew.
    let here : slice_get c.args.building.now.calendars c.args.row.now.calendar.index ≡ Some c.in-Some.calendar.now =
    sym c.calendar_at.ensures ∙ ap (option_map (λ calendar. calendar.now)) c.in-Some.is in
    c.add_to.ensures.knows honest c.args.building.now
    (file-here c.args.building.now c.names_are_distinct.ensures.calendars c.args.row.now.calendar.index c.in-Some.calendar.now here) knew

pub returns-in-Some-clause-adds : goal.returns-in-Some-clause-adds
returns-in-Some-clause-adds g c = λ honest knew imported tells.
    let here : slice_get c.args.building.now.calendars c.args.row.now.calendar.index ≡ Some c.in-Some.calendar.now =
    sym c.calendar_at.ensures ∙ ap (option_map (λ calendar. calendar.now)) c.in-Some.is in
    subst (λ calendar. OnOk c.add_to.result (c.add_to.new.items.items ≡ c.args.items.now.items
    ++ added_to (with_items imported c.args.items.now.items) c.args.row.now.entry calendar)) (sym here)
    (c.add_to.ensures.adds honest c.args.building.now
    (file-here c.args.building.now c.names_are_distinct.ensures.calendars c.args.row.now.calendar.index c.in-Some.calendar.now here)
    knew imported tells)
