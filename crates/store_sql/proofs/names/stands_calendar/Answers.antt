use Rattle.sqlite.specs.Held.{state}
use Rattle.store_sql_rows.specs.Ours.{kept_in}
use Rattle.std.proofs.Common.{sym, subst, rules}
use Rattle.store.specs.Listed.{HasCalendar}
use Rattle.store_sql_rows.specs.Stored.{tables_in}
use Rattle.store_sql.specs.Naming.{Tells}
use Rattle.store_sql.proofs.NameLemmas.{calendar_tells}
use Rattle.store.specs.Asked.Asked.{EntriesOf}
use Rattle.store_sql.proofs.ReadLemmas.{answers_ok, read_first, refused_first}
use Rattle.store_sql.proofs.names.stands_calendar.Goals as goal

pub returns-in_err-next_entry : goal.returns-in_err-next_entry
returns-in_err-next_entry g c = record { answers = refused_first c.in_err-next_entry.ensures.answers (λ _ broken. (EntriesOf c.args.calendar.now, broken)) (search rules) }

pub returns : goal.returns
returns g c =
    let kept = kept_in (state g.S.Store c.args.connection.now).now.trees in
    record {
      answers = answers_ok (read_first c.in_ok-next_entry.ensures.answers)
          (λ _ entry. subst (Tells (HasCalendar (tables_in kept) c.args.calendar.now)) (sym c.is_some.ensures)
          (calendar_tells kept c.args.calendar.now c.in_ok-next_entry.field-0 entry));
    }
