use Rattle.std.proofs.Common.{◌+◌, ◌∙◌, arith, subst, sym}
use Rattle.std.specs.Io.KnownBytes.{Appends}
use Rattle.delivery_json.specs.DeliveryText.{delivery_line}
use Rattle.points.specs.Beginnings.{AppendsStart}
use Rattle.cli_common.proofs.PrintedLemmas.{Appends-Appends, start-after, start-taken, start-whole}
use Rattle.desk_cli.proofs.StraightenLemmas.{lines-then}
use Rattle.desk_cli.proofs.straighten_run.print_deliveries.Goals as goal

pub loop-delivery-preserved : goal.loop-delivery-preserved
loop-delivery-preserved g c =
    let then = lines-then c.args.building.now c.args.deliveries.now c.loop-delivery.delivery-index c.delivery-item.result
    c.as_bytes.result.now (omega arith) c.delivery-item.is (c.as_bytes.ensures.value ∙ c.in_ok-line.ensures) in
    subst (λ text. Appends (g.W.Write.contents c.args.out.now) (g.W.Write.contents c.print_text.new.out) text) (sym then)
    (Appends-Appends _ _ _ _ _ c.loop-delivery.invariant c.in_ok-print_text.ensures.whole)

pub returns-in_err-line-clause-no_more : goal.returns-in_err-line-clause-no_more
returns-in_err-line-clause-no_more g c =
    start-taken _ c.args.deliveries.now c.loop-delivery.delivery-index _ _ (start-whole _ _ _ c.loop-delivery.invariant)

pub returns-in_err-print_text-clause-no_more : goal.returns-in_err-print_text-clause-no_more
returns-in_err-print_text-clause-no_more g c =
    let then = lines-then c.args.building.now c.args.deliveries.now c.loop-delivery.delivery-index c.delivery-item.result
    c.as_bytes.result.now (omega arith) c.delivery-item.is (c.as_bytes.ensures.value ∙ c.in_ok-line.ensures) in
    start-taken (delivery_line c.args.building.now) c.args.deliveries.now (c.loop-delivery.delivery-index + 1) _ _
    (subst (λ text. AppendsStart (g.W.Write.contents c.args.out.now) (g.W.Write.contents c.print_text.new.out) text) (sym then)
    (start-after _ _ _ _ _ c.loop-delivery.invariant c.print_text.ensures.no_more))

pub returns-clause-no_more : goal.returns-clause-no_more
returns-clause-no_more g c =
    start-taken _ c.args.deliveries.now c.loop-delivery.delivery-index _ _ (start-whole _ _ _ c.loop-delivery.invariant)
