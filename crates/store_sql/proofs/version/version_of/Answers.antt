use Rattle.std.specs.Result.{result_err}
use Rattle.sqlite.specs.Held.{state}
use Rattle.store_sql.proofs.ReadLemmas.{asks_reported, bad_only, own_cause, read_found}
use Rattle.store_sql.proofs.version.version_of.Goals as goal

pub returns-clause-asks : goal.returns-clause-asks
returns-clause-asks g c clean ours =
    asks_reported (read_found c.in_ok-rows.ensures.reads) (result_err c.parsed_version.result)
    (own_cause (state g.S.Store c.args.connection.now) (state g.S.Store c.find.new.connection) c.parsed_version.result
    (bad_only c.parsed_version.result c.parsed_version.ensures.fault)) clean ours
