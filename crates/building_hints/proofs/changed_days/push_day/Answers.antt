use Rattle.std.proofs.Common.{◌∙◌, ◌++◌, ap, sym, string_bytes}
use Rattle.std.proofs.lemmas.List.{append-nil}
use Rattle.building_hints.proofs.ChangeLemmas.{no_hints}
use Rattle.building_hints.proofs.changed_days.push_day.Goals as goal

pub returns-else-some_row_holds : goal.returns-else-some_row_holds
returns-else-some_row_holds c =
    let building = c.args.import.now.building.now in
    sym (append-nil (string_bytes c.args.text.now))
    ∙ ap (λ hints. string_bytes c.args.text.now ++ hints)
    (sym (no_hints building.calendars building.schedules c.args.import.now.rows.now c.args.day (sym c.if-some_row_holds.ensures)))
