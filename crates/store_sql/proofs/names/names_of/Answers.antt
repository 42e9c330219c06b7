use Rattle.std.proofs.Common.{rules}
use Rattle.sqlite.specs.Held.{state}
use Rattle.store_sql_rows.specs.Ours.{kept_in}
use Rattle.store_sql_rows.specs.Stored.{tables_in}
use Rattle.store_sql.proofs.NameLemmas.{all_stand, four_good, nexts_stand, none_nameless}
use Rattle.store_sql.proofs.ReadLemmas.{answers_ok, read_first, read_then, refused_then}
use Rattle.store_sql.proofs.names.names_of.Goals as goal

pub returns-in_err-points : goal.returns-in_err-points
returns-in_err-points g c =
    record {
      answers = refused_then (read_first c.in_ok-panels.ensures.answers) c.in_err-points.ensures.answers (λ _ _ broken. broken) (search rules);
    }

pub returns-in_err-schedules : goal.returns-in_err-schedules
returns-in_err-schedules g c =
    record {
      answers = refused_then (read_then (read_first c.in_ok-panels.ensures.answers) c.in_ok-points.ensures.answers)
          c.in_err-schedules.ensures.answers (λ _ _ broken. broken) (search rules);
    }

pub returns-in_err-calendars : goal.returns-in_err-calendars
returns-in_err-calendars g c =
    record {
      answers = refused_then
          (read_then (read_then (read_first c.in_ok-panels.ensures.answers) c.in_ok-points.ensures.answers) c.in_ok-schedules.ensures.answers)
          c.in_err-calendars.ensures.answers (λ _ _ broken. broken) (search rules);
    }

pub returns : goal.returns
returns g c =
    let first = state g.S.Store c.args.connection.now in
    let kept = kept_in first.now.trees in
    record {
      answers = answers_ok
          (read_then (read_then (read_then (read_first c.in_ok-panels.ensures.answers) c.in_ok-points.ensures.answers)
          c.in_ok-schedules.ensures.answers) c.in_ok-calendars.ensures.answers)
          (λ ours all. (
            all_stand (tables_in kept) _ all.0.0.0.stand all.0.0.1.stand all.0.1.stand all.1.stand,
            let good = four_good kept _ _ _ _ all.0.0.0 all.0.0.1 all.0.1 all.1 in
                record { names = none_nameless first.now ours good; nexts = nexts_stand kept good },
          ));
    }
