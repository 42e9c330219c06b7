use Rattle.std.proofs.Common.{sym, subst, IfOk}
use Rattle.sqlite.specs.Held.{state}
use Rattle.store_sql_rows.specs.Ours.{kept_in}
use Rattle.store_sql.specs.Naming.{IsListed}
use Rattle.store_sql.proofs.NameLemmas.{calendars_reported, panels_reported, points_reported, schedules_reported}
use Rattle.store_sql.proofs.ReadLemmas.{answers_as}
use Rattle.store_sql.proofs.names.stands_in.Goals as goal

pub returns-in-Panels : goal.returns-in-Panels
returns-in-Panels g c =
    let kept = kept_in (state g.S.Store c.args.connection.now).now.trees in
    record {
      answers = answers_as c.stands_panel.ensures.answers
          (λ _ value. subst (λ list. IfOk c.stands_panel.result (IsListed list kept c.args.name.now)) (sym c.in-Panels.is)
          (panels_reported kept c.args.name.now c.stands_panel.result c.as_str-name.ensures.is_name value)) (λ _ broken. broken);
    }

pub returns-in-Points : goal.returns-in-Points
returns-in-Points g c =
    let kept = kept_in (state g.S.Store c.args.connection.now).now.trees in
    record {
      answers = answers_as c.stands_point.ensures.answers
          (λ _ value. subst (λ list. IfOk c.stands_point.result (IsListed list kept c.args.name.now)) (sym c.in-Points.is)
          (points_reported kept c.args.name.now c.stands_point.result c.as_str-name.ensures.is_name value)) (λ _ broken. broken);
    }

pub returns-in-Schedules : goal.returns-in-Schedules
returns-in-Schedules g c =
    let kept = kept_in (state g.S.Store c.args.connection.now).now.trees in
    record {
      answers = answers_as c.stands_schedule.ensures.answers
          (λ _ value. subst (λ list. IfOk c.stands_schedule.result (IsListed list kept c.args.name.now)) (sym c.in-Schedules.is)
          (schedules_reported kept c.args.name.now c.stands_schedule.result c.as_str-name.ensures.is_name value)) (λ _ broken. broken);
    }

pub returns-in-Calendars : goal.returns-in-Calendars
returns-in-Calendars g c =
    let kept = kept_in (state g.S.Store c.args.connection.now).now.trees in
    record {
      answers = answers_as c.stands_calendar.ensures.answers
          (λ _ value. subst (λ list. IfOk c.stands_calendar.result (IsListed list kept c.args.name.now)) (sym c.in-Calendars.is)
          (calendars_reported kept c.args.name.now c.stands_calendar.result c.as_str-name.ensures.is_name value)) (λ _ broken. broken);
    }
