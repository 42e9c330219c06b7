use Rattle.std.proofs.Common.{◌∙◌, ◌++◌, ◌∷◌, [], cond, List, Option, None, ap, arith, refl}
use Rattle.std.specs.Prelude.{ℤ}
use Rattle.std.specs.Str.{bytes_eq}
use Rattle.points.specs.Texts.{Text}
use Rattle.store.specs.Change.{with_each, with_shown}
use Rattle.store.specs.declared.change.ShownValue.{ShownValue}
use Rattle.store.specs.Tables.{no_tables}
use Rattle.store_copy.proofs.NameLemmas.{read-step, with_each-append}
use Rattle.store_copy.proofs.schedules.shown_by.Goals as goal

pub loop-schedule-preserved : goal.loop-schedule-preserved
loop-schedule-preserved g c =
    let item : ShownValue = record { schedule = c.schedule-item.result; shown = c.in_ok-shown.shown } in
    let items : List ShownValue = c.loop-schedule.items.items in
    read-step (λ x y. x) None (λ x. refl) (λ x. refl) (λ tables. tables.shown) (g.S.Store.standing c.args.store.now)
    (g.S.Store.standing c.loop-schedule.store) (g.S.Store.standing c.shown.new.self) _ _ c.args.schedules.now c.loop-schedule.schedule-index
    item.schedule c.loop-schedule.invariant c.in_ok-shown.ensures.reads (omega (arith, c.loop-schedule-test.true)) c.schedule-item.is
    (λ honest q. ap (λ (list : List ShownValue). with_each with_shown list no_tables.shown q) {y = items ++ item ∷ []} c.in_ok-push.ensures.items
    ∙ ap (λ (f : Text → Option (Option ℤ)). f q) (with_each-append with_shown items (item ∷ []) no_tables.shown)
    ∙ ap (λ (o : Option (Option ℤ)). cond (bytes_eq item.schedule q) o (with_each with_shown items no_tables.shown q)) (c.in_ok-shown.ensures.value honest))
