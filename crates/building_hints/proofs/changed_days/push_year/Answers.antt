use Rattle.std.proofs.Common.{◌∙◌, ◌++◌, ap, sym, append_assoc, string_bytes, arith}
use Rattle.std.proofs.lemmas.List.{append-nil}
use Rattle.building_hints.specs.ChangedDays.{day_hints, each_between, month_text}
use Rattle.building_hints.proofs.ChangeLemmas.{each-before, each-more}
use Rattle.building_hints.proofs.changed_days.push_year.Goals as goal

pub loop-month-init : goal.loop-month-init
loop-month-init c =
    let import = c.args.import.now in
    let hints = month_text (day_hints import.building.now.calendars import.building.now.schedules import.rows.now) c.args.year in
    sym (append-nil (string_bytes c.args.text.now))
    ∙ ap (λ text. string_bytes c.args.text.now ++ text) (sym (each-before 1 1 hints (omega arith)))

pub loop-month-preserved : goal.loop-month-preserved
loop-month-preserved c =
    let import = c.args.import.now in
    let hints = month_text (day_hints import.building.now.calendars import.building.now.schedules import.rows.now) c.args.year in
    c.in_ok-push_month.ensures
    ∙ ap (λ text. text ++ hints c.loop-month.month) c.loop-month.invariant
    ∙ append_assoc (string_bytes c.args.text.now) (each_between 1 c.loop-month.month hints) (hints c.loop-month.month)
    ∙ ap (λ text. string_bytes c.args.text.now ++ text) (sym (each-more 1 c.loop-month.month hints c.loop-month.auto.month))
