use Rattle.std.proofs.Common.{refl, sym}
use Rattle.cli_record.proofs.BesideLemmas.{still-same}
use Rattle.cli_record.proofs.beside.desk_over.Goals as goal

pub returns-in-Some-clause-refused : goal.returns-in-Some-clause-refused
returns-in-Some-clause-refused g c = (sym c.in-Some.is, (c.args.store, refl, still-same (g.S.Store.standing c.args.store)))
