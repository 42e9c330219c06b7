use Rattle.std.proofs.Common.{◌∙◌, ◌++◌, ap, sym, append_assoc, string_bytes, arith}
use Rattle.std.proofs.lemmas.List.{append-nil}
use Rattle.building_hints.specs.ChangedDays.{day_hints, each_between, date_text}
use Rattle.building_hints.proofs.ChangeLemmas.{each-before, each-more}
use Rattle.building_hints.proofs.changed_days.push_month.Goals as goal

pub loop-day-init : goal.loop-day-init
loop-day-init c =
    let import = c.args.import.now in
    let hints = date_text (day_hints import.building.now.calendars import.building.now.schedules import.rows.now) c.args.year c.args.month in
    sym (append-nil (string_bytes c.args.text.now))
    ∙ ap (λ text. string_bytes c.args.text.now ++ text) (sym (each-before 1 1 hints (omega arith)))

pub loop-day-preserved : goal.loop-day-preserved
loop-day-preserved c =
    let import = c.args.import.now in
    let hints = date_text (day_hints import.building.now.calendars import.building.now.schedules import.rows.now) c.args.year c.args.month in
    c.in_ok-push_date.ensures
    ∙ ap (λ text. text ++ hints c.loop-day.day) c.loop-day.invariant
    ∙ append_assoc (string_bytes c.args.text.now) (each_between 1 c.loop-day.day hints) (hints c.loop-day.day)
    ∙ ap (λ text. string_bytes c.args.text.now ++ text) (sym (each-more 1 c.loop-day.day hints c.loop-day.auto.day))
