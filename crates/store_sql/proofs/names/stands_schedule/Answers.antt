use Rattle.std.proofs.Common.{rules}
use Rattle.store.specs.Asked.Asked.{ShownBy}
use Rattle.store_sql.proofs.ReadLemmas.{refused_first}
use Rattle.store_sql.proofs.names.stands_schedule.Goals as goal

pub returns-in_err-shown_by : goal.returns-in_err-shown_by
returns-in_err-shown_by g c = record { answers = refused_first c.in_err-shown_by.ensures.answers (λ _ broken. (ShownBy c.args.schedule.now, broken)) (search rules) }
