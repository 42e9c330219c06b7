use Rattle.std.proofs.Common.{◌≡◌, ◌∙◌, ◌-◌, ◌++◌, [], ◌∷◌, inl, inr, refl, sym, ap, arith, rules}
use Rattle.sqlite.specs.Given.{HasGiven}
use Rattle.sqlite.specs.Held.{state}
use Rattle.sqlite.specs.State.{HasCleanDisk}
use Rattle.sqlite.specs.Values.{bound}
use Rattle.sqlite.proofs.Callers.{given_begin}
use Rattle.store_sql_rows.specs.Looking.{Leaves, last_shown, number_shown}
use Rattle.store_sql_rows.proofs.StepwiseLemmas.{all_read, begun_given, begun_stays, first_read, last-more, leaves_err, moved_fails, moved_stays, refused_leaves}
use Rattle.store_sql_rows.proofs.command_run.read_run.Goals as goal

pub returns-in_err-rows-clause-leaves : goal.returns-in_err-rows-clause-leaves
returns-in_err-rows-clause-leaves g c =
    refused_leaves g.S.Store c.args.sql.now (bound c.args.params.now) c.requires.sure c.args.connection.now
    c.query.follows.lender-at-none c.in_err-rows.field-0.0 c.query.result c.from_residual.result (search rules) (search rules)
    c.query.follows.holds-at-none

pub rows-init : goal.rows-init
rows-init g c =
    let made = c.in_ok-rows.ensures in
    let old = c.args.connection.now in
    let now = c.in_ok-rows.rows.conn.now in
    record {
      same_reference = refl;
      stays = begun_stays g.S.Store c.args.sql.now (bound c.args.params.now) c.requires.sure old now made.begun made.mode made.survives;
      given = rw c.new-run.ensures.items
          (begun_given g.S.Store c.args.sql.now (bound c.args.params.now) c.requires.sure old now made.begun);
      last = rw c.new-run.ensures.items refl;
    }

pub returns-in_err-row-clause-leaves : goal.returns-in_err-row-clause-leaves
returns-in_err-row-clause-leaves g c =
    let old = state g.S.Store c.args.connection.now in
    let now = c.next.follows.lender-at-none.conn.now in
    let moved = c.next.follows.holds-at-none in
    let leaves : Leaves old (state g.S.Store now) c.from_residual-in_err-row.result =
    moved_fails g.S.Store c.args.sql.now (bound c.args.params.now) c.requires.sure old c.rows.rows.conn.now now
    c.rows.invariant.stays c.rows.run.items c.rows.invariant.given c.in_err-row.field-0.0 c.from_residual-in_err-row.result
    (search rules) moved.mode (λ clean. rw c.in_err-row.was at (moved.err clean)) moved.survives in
    search rules

pub returns-in_default-clause-read : goal.returns-in_default-clause-read
returns-in_default-clause-read g c clean ours command is =
    let old = state g.S.Store c.args.connection.now in
    let was = c.rows.rows.conn.now in
    let now = c.next.follows.lender-at-none.conn.now in
    let moved = c.next.follows.holds-at-none in
    let late : HasCleanDisk (state g.S.Store now) = search rules in
    let before : HasCleanDisk (state g.S.Store was) = omega (arith, late, moved.survives.clean) in
    let shown = (rw (c.in_ok-row.was, c.in_default.is) at (moved.ok late)) c.args.sql.now (bound c.args.params.now) c.rows.run.items
    (c.rows.invariant.given before ours) in
    inl (all_read c.args.sql.now (bound c.args.params.now) command c.requires.sure.plain c.requires.sure.unlisted is old (state g.S.Store was)
    (state g.S.Store now) c.rows.run.items ours (c.rows.invariant.stays.same before ours) shown)

pub returns-then-last-number-clause-read : goal.returns-then-last-number-clause-read
returns-then-last-number-clause-read g c clean ours command is =
    let old = state g.S.Store c.args.connection.now in
    let was = c.rows.rows.conn.now in
    let now = c.next.follows.lender-at-none.conn.now in
    let moved = c.next.follows.holds-at-none in
    let row = c.in-Some.row.now in
    let late : HasCleanDisk (state g.S.Store now) = search rules in
    let before : HasCleanDisk (state g.S.Store was) = omega (arith, late, moved.survives.clean) in
    let given : HasGiven g.S.Store c.args.sql.now (bound c.args.params.now) now (c.rows.run.items ++ row ∷ []) =
    (rw (c.in_ok-row.was, c.in-Some.is) at (moved.ok late)) c.args.sql.now (bound c.args.params.now) c.rows.run.items
    (c.rows.invariant.given before ours) in
    let stays = moved_stays g.S.Store c.args.sql.now (bound c.args.params.now) c.requires.sure old was now c.rows.invariant.stays
    c.rows.run.items c.rows.invariant.given moved.mode (λ clean. rw c.in_ok-row.was at (moved.same clean)) moved.survives in
    let number : c.number_shown-number.result ≡ number_shown row = c.number_shown-number.ensures in
    let last : c.rows.last ≡ last_shown (c.args.from - 1) c.rows.run.items = c.rows.invariant.last in
    let past = c.if-upto-number.true in
    let apart = c.if-last-number.true in
    inr (record {
      row = row;
      begins = first_read c.args.sql.now (bound c.args.params.now) command c.requires.sure.plain c.requires.sure.unlisted is old (state g.S.Store now)
          (c.rows.run.items ++ row ∷ []) ours (stays.same late ours)
          (given_begin g.S.Store c.args.sql.now (bound c.args.params.now) now (c.rows.run.items ++ row ∷ []) given);
      past = omega (arith, past, number);
      apart = omega (arith, apart, number, last);
    })

pub returns-in_err-copy-clause-leaves : goal.returns-in_err-copy-clause-leaves
returns-in_err-copy-clause-leaves g c =
    let old = state g.S.Store c.args.connection.now in
    let now = c.next.follows.lender-at-none.conn.now in
    let moved = c.next.follows.holds-at-none in
    let leaves : Leaves old (state g.S.Store now) c.from_residual-in_err-copy.result =
    leaves_err old (state g.S.Store now) c.from_residual-in_err-copy.result (search rules)
    (moved_stays g.S.Store c.args.sql.now (bound c.args.params.now) c.requires.sure old c.rows.rows.conn.now now c.rows.invariant.stays
    c.rows.run.items c.rows.invariant.given moved.mode (λ clean. rw c.in_ok-row.was at (moved.same clean)) moved.survives) in
    search rules

pub returns-in_err-push-clause-leaves : goal.returns-in_err-push-clause-leaves
returns-in_err-push-clause-leaves g c =
    let old = state g.S.Store c.args.connection.now in
    let now = c.next.follows.lender-at-none.conn.now in
    let moved = c.next.follows.holds-at-none in
    let leaves : Leaves old (state g.S.Store now) c.from_residual-in_err-push.result =
    leaves_err old (state g.S.Store now) c.from_residual-in_err-push.result (search rules)
    (moved_stays g.S.Store c.args.sql.now (bound c.args.params.now) c.requires.sure old c.rows.rows.conn.now now c.rows.invariant.stays
    c.rows.run.items c.rows.invariant.given moved.mode (λ clean. rw c.in_ok-row.was at (moved.same clean)) moved.survives) in
    search rules

pub rows-preserved : goal.rows-preserved
rows-preserved g c =
    let old = state g.S.Store c.args.connection.now in
    let was = c.rows.rows.conn.now in
    let now = c.next.follows.lender-at-none.conn.now in
    let moved = c.next.follows.holds-at-none in
    let row = c.in-Some.row.now in
    let items : c.push.new.self.items ≡ c.rows.run.items ++ row ∷ [] = search rules in
    record {
      same_reference = moved.same_reference ∙ c.rows.invariant.same_reference;
      stays = moved_stays g.S.Store c.args.sql.now (bound c.args.params.now) c.requires.sure old was now c.rows.invariant.stays
          c.rows.run.items c.rows.invariant.given moved.mode (λ clean. rw c.in_ok-row.was at (moved.same clean)) moved.survives;
      given = λ clean ours.
          let before : HasCleanDisk (state g.S.Store was) = omega (arith, clean, moved.survives.clean) in
          rw items ((rw (c.in_ok-row.was, c.in-Some.is) at (moved.ok clean)) c.args.sql.now (bound c.args.params.now) c.rows.run.items
          (c.rows.invariant.given before ours));
      last = c.number_shown-number.ensures ∙ sym (ap (last_shown (c.args.from - 1)) items ∙ last-more (c.args.from - 1) c.rows.run.items row);
    }
