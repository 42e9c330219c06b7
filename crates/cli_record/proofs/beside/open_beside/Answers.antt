use Rattle.std.proofs.Common.{sym}
use Rattle.cli_record.proofs.beside.open_beside.Goals as goal

pub returns-in-Ok-clause-refused : goal.returns-in-Ok-clause-refused
returns-in-Ok-clause-refused g c =
    (rw c.in-Ok.ensures.building at c.open_with.ensures.refused) c.args.base (sym c.is_some-has_base.ensures) c.in-Ok.ensures.holds

pub returns-in-Ok-clause-no_database : goal.returns-in-Ok-clause-no_database
returns-in-Ok-clause-no_database g c =
    (rw c.in-Ok.ensures.building at c.open_with.ensures.no_database) c.args.base (sym c.is_some-has_base.ensures) c.in-Ok.ensures.holds
