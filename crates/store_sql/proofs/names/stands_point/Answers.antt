use Rattle.std.proofs.Common.{rules}
use Rattle.store.specs.Asked.Asked.{ArrayOf}
use Rattle.store_sql.proofs.ReadLemmas.{refused_first}
use Rattle.store_sql.proofs.names.stands_point.Goals as goal

pub returns-in_err-array_of : goal.returns-in_err-array_of
returns-in_err-array_of g c = record { answers = refused_first c.in_err-array_of.ensures.answers (λ _ broken. (ArrayOf c.args.point.now, broken)) (search rules) }
