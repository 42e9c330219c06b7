use Rattle.std.proofs.Common.{take, arith}
use Rattle.desk_record.proofs.LastLemmas.{first-of, last-of}
use Rattle.desk_record.proofs.last_line.last_line.Goals as goal

pub returns-in-Some-last_end-clause-found : goal.returns-in-Some-last_end-clause-found
returns-in-Some-last_end-clause-found c =
    last-of c.args.from c.args.bytes.now _ c.in-Some.end c.in-Some-last_end.before (grind arith) c.in-Some.ensures c.in-Some-last_end.ensures

pub returns-in-None-clause-found : goal.returns-in-None-clause-found
returns-in-None-clause-found c =
    first-of c.args.from c.args.bytes.now (take c.in-Some.end c.args.bytes.now) c.in-Some.end c.if-from-eq0-2.true (grind arith) c.in-Some.ensures c.in-None.ensures
