use Rattle.std.proofs.Common.{◌∙◌, ap, subst, sym}
use Rattle.dates.specs.Entry.{IsEntry}
use Rattle.building_hints.specs.EntryDays.{days_tried, holds_on_some_day, months_tried, years_tried}
use Rattle.building_hints.proofs.EntryDayLemmas.{pattern_tried, range_tried}
use Rattle.building_hints.proofs.entry_days.holds_on_some_day.Goals as goal

pub returns-in-Pattern : goal.returns-in-Pattern
returns-in-Pattern c =
    let pattern = c.in-Pattern.pattern in
    let years = c.years_tried.ensures ∙ ap years_tried c.year.ensures in
    let months = c.months_tried.ensures ∙ ap months_tried c.months.ensures in
    let days = c.days_tried.ensures ∙ ap days_tried c.days.ensures in
    rw (c.in-Pattern.is, years, months, days) at (c.holds_in_years.ensures) ∙ pattern_tried pattern ∙ ap holds_on_some_day (sym c.in-Pattern.is)

pub returns-in-Range : goal.returns-in-Range
returns-in-Range c =
    c.is_range_of_days.ensures
    ∙ range_tried c.in-Range.range (subst IsEntry c.in-Range.is c.lies_in_range.ensures)
    ∙ ap holds_on_some_day (sym c.in-Range.is)
