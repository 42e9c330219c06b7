use Rattle.std.proofs.Common.{◌≡◌, drop, append-nil, sym, ◌<◌, ◌++◌, ◌-◌, ◌∙◌, ◌∷◌, [], ℕ, length, ap, arith, rules}
use Rattle.std.proofs.lemmas.List.{drop_all}
use Rattle.sqlite.specs.Held.{state}
use Rattle.store.specs.declared.change.RowsBelow.{RowsBelow}
use Rattle.store_sql_rows.specs.Ours.{kept_in}
use Rattle.store_sql.proofs.ReadLemmas.{answers_failed, answers_ok, read_as, read_none, read_then, refused_then}
use Rattle.store_sql_rows.specs.Stored.{tables_in}
use Rattle.store_sql.proofs.EarlyLemmas.{far_more}
use Rattle.store_sql_rows.proofs.UnsoundLemmas.{unsound}
use Rattle.store.specs.Asked.Asked.{NextOf}
use Rattle.store_sql.proofs.early.early_of.Goals as goal

pub loop-panel-init : goal.loop-panel-init
loop-panel-init g c = record { reads = read_none _ (state g.S.Store c.args.connection.now) (λ _ _. search rules) }

pub loop-panel-preserved : goal.loop-panel-preserved
loop-panel-preserved g c =
    let kept = kept_in (state g.S.Store c.args.connection.now).now.trees in
    let below : c.loop-panel.panel-index < length c.args.panels.now = omega arith in
    let panel = c.panel-item.result in
    let so_far = c.loop-panel.dropped.items in
    record {
      reads = read_as (read_then c.loop-panel.invariant.reads c.in_ok-next_of.ensures.answers)
          (λ _ read. far_more (tables_in kept).next c.args.panels.now c.loop-panel.panel-index panel so_far c.push.new.list.items below
          c.panel-item.is read.0
          (c.in_ok-push.ensures.items
          ∙ ap (λ (n : ℕ). so_far ++ (let it : RowsBelow = record { panel = panel; number = n } in it) ∷ [])
          (c.saturating_sub-number.ensures ∙ ap (λ n. n - 1_000) read.1.0)));
    }

pub returns-in_err-next_of : goal.returns-in_err-next_of
returns-in_err-next_of g c =
    let kept = kept_in (state g.S.Store c.args.connection.now).now.trees in
    record {
      answers = refused_then c.loop-panel.invariant.reads c.in_err-next_of.ensures.answers
          (λ _ _ broken. unsound kept (NextOf c.panel-item.result) broken) (search rules);
    }

pub returns-in_err-push : goal.returns-in_err-push
returns-in_err-push g c =
    record {
      answers = answers_failed (read_then c.loop-panel.invariant.reads c.in_ok-next_of.ensures.answers) c.in_err-push.ensures.fault (search rules);
    }

pub returns : goal.returns
returns g c =
    let done : drop c.loop-panel.panel-index c.args.panels.now ≡ [] =
    drop_all c.loop-panel.panel-index c.args.panels.now (omega arith) in
    record {
      answers = answers_ok c.loop-panel.invariant.reads (λ _ far. sym (append-nil c.loop-panel.dropped.items) ∙ rw done at far);
    }
