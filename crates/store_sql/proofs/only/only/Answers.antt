use Rattle.std.proofs.Common.{rules}
use Rattle.store_sql.proofs.FoundLemmas.{several_of}
use Rattle.store_sql.proofs.only.only.Goals as goal

pub returns-clause-several : goal.returns-clause-several
returns-clause-several c = several_of c.args.rows.items (search rules)
