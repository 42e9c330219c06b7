use Rattle.std.proofs.Common.{◌≡◌, ◌≤◌, Result, Ok, Err, IfErr, arith}
use Rattle.store_sql_rows.specs.Stored.{tables_in}
use Rattle.store_sql_rows.specs.declared.read_fault.ReadFault.{ReadFault}
use Rattle.store_sql_rows.specs.declared.read_fault.ReadFault.TheVariants.{BadRow}
use Rattle.store_sql.proofs.NumberLemmas.{run_broken, run_ends, so_far_more, stood_more, stood_run}
use Rattle.store_sql.proofs.numbered.run_in.Goals as goal

pub returns-in-None-clause-value : goal.returns-in-None-clause-value
returns-in-None-clause-value c kept panel least gap listed start up =
    let from : c.args.from ≤ c.loop.number = c.loop.invariant.ordered in
    let far = c.loop.invariant.so_far kept panel least gap listed start up in
    let ends = rw c.in-None.is at
    (c.in_ok-found.ensures.value kept panel least gap listed far.2 (λ n more one. up n (omega (arith, from, more)) one)) in (
      run_ends ((tables_in kept).row panel) c.args.from c.args.upto c.loop.number c.loop.run.items far.0 ends.0,
      stood_run kept panel c.args.from c.args.upto c.loop.number far.1 ends.0 ends.1,
    )

-- at an error, whatever the fault is
if_bad : {A P : Type 0} (r : Result A ReadFault) → P → IfErr r (λ fault. fault ≡ BadRow → P)
if_bad (Ok x) p = tt
if_bad (Err fault) p = λ _. p

pub returns-in_err-found-clause-bad : goal.returns-in_err-found-clause-bad
returns-in_err-found-clause-bad c kept panel least gap listed start up =
    let from : c.args.from ≤ c.loop.number = c.loop.invariant.ordered in
    let far = c.loop.invariant.so_far kept panel least gap listed start up in
    if_bad c.from_residual.result
    (run_broken kept panel c.args.from c.args.upto c.loop.number c.loop.run.items far.0
    (c.in_err-found.ensures.bad kept panel least gap listed far.2 (λ n more one. up n (omega (arith, from, more)) one)))

pub loop-preserved : goal.loop-preserved
loop-preserved c =
    let from : c.args.from ≤ c.loop.number = c.loop.invariant.ordered in
    let after : c.loop.number ≤ c.in-Some.found.number = rw c.in-Some.is at c.in_ok-found.ensures.after in
    record {
      ordered = omega (arith, from, after);
      so_far = λ kept panel least gap listed start up.
          let far = c.loop.invariant.so_far kept panel least gap listed start up in
          let found = rw c.in-Some.is at
          (c.in_ok-found.ensures.value kept panel least gap listed far.2 (λ n more one. up n (omega (arith, from, more)) one)) in
          let before = found.2 in (
            so_far_more ((tables_in kept).row panel) c.args.from c.args.upto c.loop.number c.in-Some.found c.loop.run.items
                c.push.new.list.items far.0 found.0 c.in_ok-push-in-Some.ensures.items,
            stood_more kept panel c.args.from c.loop.number c.args.upto c.in-Some.found far.1 found.1,
            omega (arith, before),
          );
    }
