use Rattle.desk.proofs.KnownLemmas.{Opens-own}
use Rattle.desk.proofs.OpeningLemmas.{Opens-empty}
use Rattle.desk.proofs.operating.Desk.open.Goals as goal

pub returns-in-Err-clause-own_tables : goal.returns-in-Err-clause-own_tables
returns-in-Err-clause-own_tables g c = λ earlier held honest.
    let old = g.S.Store.standing c.args.store in
    let new = g.S.Store.standing c.look_over.new.store in
    Opens-own c.args.building c.schedules-sound.ensures.sound earlier c.in-Err.fault old new c.in-Err.ensures honest held

pub returns-in-Ok-clause-begins : goal.returns-in-Ok-clause-begins
returns-in-Ok-clause-begins g c = λ empty honest.
    let old = g.S.Store.standing c.args.store in
    let new = g.S.Store.standing c.look_over.new.store in
    Opens-empty c.args.building old new c.in-Ok.ensures honest empty

-- nothing is kept
pub invariant_of-result : goal.invariant_of-result
invariant_of-result g c = record {
  spans = c.new.ensures.spans c.args.building;
  today = λ _ _. c.new.ensures.today c.args.building (g.S.Store.standing c.look_over.new.store).content.tables.imported;
}
