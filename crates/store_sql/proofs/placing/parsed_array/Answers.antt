use Rattle.std.proofs.Common.{◌<◌, ◌≡◌, ◌∙◌, length, take, take_all, subst, arith}
use Rattle.store_sql.specs.Placing.{AreReported}
use Rattle.store_sql.proofs.PlacingLemmas.{cannot, reported_all, reported_more, reported_none, reported_stands}
use Rattle.store_sql.proofs.ParsedLemmas.{if_err}
use Rattle.store_sql.proofs.placing.parsed_array.Goals as goal

pub loop-row-init : goal.loop-row-init
loop-row-init c = reported_none c.new-array.result c.new-array.ensures

pub loop-row-preserved : goal.loop-row-preserved
loop-row-preserved c =
    let below : c.loop-row.row-index < length c.deref-row-items.result.now = omega arith in
    reported_more c.deref-row-items.result.now c.loop-row.row-index c.row-item.result c.loop-row.array c.place.new.array below
    c.row-item.is c.loop-row.invariant c.in_ok-place.ensures.placed

pub returns-clause-value : goal.returns-clause-value
returns-clause-value c kept found =
    let whole : take c.loop-row.row-index c.deref-row-items.result.now ≡ c.args.rows.items =
    take_all c.loop-row.row-index c.deref-row-items.result.now (omega arith) ∙ c.deref-row-items.ensures.value in
    reported_all c.args.point.now kept c.args.rows.items c.as_str-name.ensures.is_name found c.loop-row.array
    (subst (λ l. AreReported l c.loop-row.array) whole c.loop-row.invariant)

pub returns-in_err-place-clause-bad : goal.returns-in_err-place-clause-bad
returns-in_err-place-clause-bad c kept found =
    let below : c.loop-row.row-index < length c.deref-row-items.result.now = omega arith in
    if_err c.from_residual.result (cannot c.args.point.now kept c.deref-row-items.result.now c.as_str-name.ensures.is_name
    (rw c.deref-row-items.ensures.value found) c.loop-row.row-index c.row-item.result c.loop-row.array below c.row-item.is
    c.loop-row.invariant c.in_err-place.ensures.bad)

pub returns-clause-stood : goal.returns-clause-stood
returns-clause-stood c kept found =
    let whole : take c.loop-row.row-index c.deref-row-items.result.now ≡ c.args.rows.items =
    take_all c.loop-row.row-index c.deref-row-items.result.now (omega arith) ∙ c.deref-row-items.ensures.value in
    reported_stands c.args.point.now kept c.args.rows.items c.as_str-name.ensures.is_name found c.loop-row.array
    (subst (λ l. AreReported l c.loop-row.array) whole c.loop-row.invariant)
