use Rattle.std.proofs.Common.{◌≡◌, ◌∙◌, ◌++◌, ap, sym, append_assoc, string_bytes, arith}
use Rattle.std.proofs.lemmas.List.{append-nil}
use Rattle.building_hints.specs.ChangedDays.{day_hints, year_text, each_between, days_text}
use Rattle.building_hints.proofs.ChangeLemmas.{each-before, each-more}
use Rattle.building_hints.proofs.changed_days.push_years.Goals as goal

pub loop-year-init : goal.loop-year-init
loop-year-init c =
    let import = c.args.import.now in
    let hints = year_text (day_hints import.building.now.calendars import.building.now.schedules import.rows.now) in
    sym (append-nil (string_bytes c.args.text.now))
    ∙ ap (λ text. string_bytes c.args.text.now ++ text) (sym (each-before 1970 1970 hints (omega arith)))

pub loop-year-preserved : goal.loop-year-preserved
loop-year-preserved c =
    let import = c.args.import.now in
    let hints = year_text (day_hints import.building.now.calendars import.building.now.schedules import.rows.now) in
    c.in_ok-push_year.ensures
    ∙ ap (λ text. text ++ hints c.loop-year.year) c.loop-year.invariant
    ∙ append_assoc (string_bytes c.args.text.now) (each_between 1970 c.loop-year.year hints) (hints c.loop-year.year)
    ∙ ap (λ text. string_bytes c.args.text.now ++ text) (sym (each-more 1970 c.loop-year.year hints c.loop-year.auto.year))

pub returns : goal.returns
unfolding days_text
returns c =
    let import = c.args.import.now in
    let hints = year_text (day_hints import.building.now.calendars import.building.now.schedules import.rows.now) in
    let end : c.loop-year.year ≡ 2155 = omega (arith, c.loop-year-test.false) in
    c.loop-year.invariant ∙ ap (λ year. string_bytes c.args.text.now ++ each_between 1970 year hints) end
