use Rattle.std.proofs.Common.{◌≡◌, IfOk, string_bytes, subst, sym}
use Rattle.desk.specs.DayReport.{report_text}
use Rattle.desk_settling.specs.Calendars.{Tells}
use Rattle.store.specs.Standing.{Content}
use Rattle.desk_follow.proofs.follower.Follower.report.Goals as goal

pub returns-clause-text : goal.returns-clause-text
returns-clause-text c = λ earlier deliveries followed imported tells.
    subst (λ (content : Content). IfOk c.day_report.result (λ text. string_bytes text
    ≡ report_text c.args.building.now imported content.tables.places c.args.day)) followed.holds
    (c.day_report.ensures.text tt imported (subst (λ (content : Content). Tells content.tables.imported imported) (sym followed.holds) tells))
