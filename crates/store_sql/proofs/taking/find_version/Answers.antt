use Rattle.std.proofs.Common.{◌≡◌, ◌⊎◌, rules, subst, sym, true, Err, IfErr, IfOk, IsTrue}
use Rattle.sqlite.specs.Held.{state}
use Rattle.store_sql.specs.declared.refusal.Refusal.TheVariants.{NotOurs, Sql}
use Rattle.store_sql.specs.Opening.{IsCaused, IsFound, is_sql}
use Rattle.store_sql.proofs.CauseLemmas.{version_caused}
use Rattle.store_sql.proofs.ReadLemmas.{clean_before}
use Rattle.store_sql.proofs.OpenLemmas.{faults_reported, found_reported, known_reported}
use Rattle.store_sql.proofs.taking.find_version.Goals as goal

pub returns-clause-found : goal.returns-clause-found
returns-clause-found g c clean =
    let old = state g.S.Store c.args.connection.now in
    let mid = state g.S.Store c.rows_are_own.new.connection in
    let new = state g.S.Store c.version_of.new.connection in
    let own : c.in_ok-rows_are_own.field-0 ≡ true = search in
    subst (λ r. IfOk r (λ version. IsFound version old new)) (sym c.as_version.ensures)
    (found_reported c.version_of.result c.in_ok-rows_are_own.field-0 old mid new own (c.has_shape.ensures.settled search)
    (c.in_ok-rows_are_own.ensures.judged (clean_before mid new c.version_of.ensures.survives.clean clean))
    (c.version_of.ensures.asks clean) (c.version_of.ensures.value clean))

pub returns-clause-known : goal.returns-clause-known
returns-clause-known g c clean known =
    let old = state g.S.Store c.args.connection.now in
    let mid = state g.S.Store c.rows_are_own.new.connection in
    let new = state g.S.Store c.version_of.new.connection in
    let own : c.in_ok-rows_are_own.field-0 ≡ true = search in
    subst (λ r. IfErr r (λ fault. IsTrue (is_sql fault))) (sym c.as_version.ensures)
    (known_reported c.version_of.result c.in_ok-rows_are_own.field-0 old mid own (c.has_shape.ensures.settled search)
    (c.in_ok-rows_are_own.ensures.judged (clean_before mid new c.version_of.ensures.survives.clean clean)) known
    (c.version_of.ensures.bad clean))

pub returns-clause-faults : goal.returns-clause-faults
returns-clause-faults g c =
    subst (λ r. IfErr r (λ fault. IsTrue (is_sql fault) ⊎ (fault ≡ NotOurs))) (sym c.as_version.ensures) (faults_reported c.version_of.result)

pub returns-in_err-rows_are_own-clause-cause : goal.returns-in_err-rows_are_own-clause-cause
returns-in_err-rows_are_own-clause-cause g c clean =
    let is : c.from_residual.result ≡ Err (Sql c.in_err-rows_are_own.field-0.0) = search rules in
    subst (λ r. IfErr r (IsCaused (state g.S.Store c.args.connection.now) (state g.S.Store c.rows_are_own.new.connection))) (sym is)
    (c.in_err-rows_are_own.ensures.cause clean)

pub returns-clause-cause : goal.returns-clause-cause
returns-clause-cause g c clean =
    let old = state g.S.Store c.args.connection.now in
    let mid = state g.S.Store c.rows_are_own.new.connection in
    let new = state g.S.Store c.version_of.new.connection in
    let own : c.in_ok-rows_are_own.field-0 ≡ true = search in
    subst (λ r. IfErr r (IsCaused old new)) (sym c.as_version.ensures)
    (version_caused old mid new _ _ c.version_of.result c.in_ok-rows_are_own.field-0 own (c.has_shape.ensures.settled search)
    (c.in_ok-rows_are_own.ensures.judged (clean_before mid new c.version_of.ensures.survives.clean clean))
    c.in_ok-rows_are_own.ensures.survives c.version_of.ensures.survives clean (c.version_of.ensures.asks clean))
