use Rattle.std.proofs.Common.{ap, sym, subst, ◌∙◌, IfOk}
use Rattle.sqlite.specs.Held.{state}
use Rattle.store_sql_rows.specs.Ours.{kept_in}
use Rattle.store_sql.specs.Naming.{IsKept}
use Rattle.store_sql.specs.Texts.{IsNextText}
use Rattle.store_sql.proofs.NameLemmas.{kept_calendars, kept_panels, kept_points, kept_schedules}
use Rattle.store_sql.proofs.ReadLemmas.{answers_as}
use Rattle.store_sql.proofs.names.next_in.Goals as goal

pub returns-in-Panels : goal.returns-in-Panels
returns-in-Panels g c =
    let kept = kept_in (state g.S.Store c.args.connection.now).now.trees in
    record {
      answers = answers_as c.next_panel.ensures.answers (λ _ value. subst (λ holds. IfOk c.next_panel.result (IsNextText holds c.args.from.now))
          (sym (ap (λ list. IsKept list kept) c.in-Panels.is ∙ kept_panels kept)) value) (λ _ broken. broken);
    }

pub returns-in-Points : goal.returns-in-Points
returns-in-Points g c =
    let kept = kept_in (state g.S.Store c.args.connection.now).now.trees in
    record {
      answers = answers_as c.next_point.ensures.answers (λ _ value. subst (λ holds. IfOk c.next_point.result (IsNextText holds c.args.from.now))
          (sym (ap (λ list. IsKept list kept) c.in-Points.is ∙ kept_points kept)) value) (λ _ broken. broken);
    }

pub returns-in-Schedules : goal.returns-in-Schedules
returns-in-Schedules g c =
    let kept = kept_in (state g.S.Store c.args.connection.now).now.trees in
    record {
      answers = answers_as c.next_schedule.ensures.answers (λ _ value. subst (λ holds. IfOk c.next_schedule.result (IsNextText holds c.args.from.now))
          (sym (ap (λ list. IsKept list kept) c.in-Schedules.is ∙ kept_schedules kept)) value) (λ _ broken. broken);
    }

pub returns-in-Calendars : goal.returns-in-Calendars
returns-in-Calendars g c =
    let kept = kept_in (state g.S.Store c.args.connection.now).now.trees in
    record {
      answers = answers_as c.next_calendar.ensures.answers (λ _ value. subst (λ holds. IfOk c.next_calendar.result (IsNextText holds c.args.from.now))
          (sym (ap (λ list. IsKept list kept) c.in-Calendars.is ∙ kept_calendars kept)) value) (λ _ broken. broken);
    }
