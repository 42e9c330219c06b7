use Rattle.std.proofs.Common.{inr, refl, rules, subst, IfOk}
use Rattle.std.proofs.lemmas.List.{take_rest}
use Rattle.panel_http.specs.AskedRoute.{route_asked}
use Rattle.panel_http.specs.Requests.{IsAskedBy}
use Rattle.panel_http.proofs.WholeInputLemmas.{head-asks, overflowing-none, unfinished-none}
use Rattle.panel_http.proofs.whole_input.request_in.Goals as goal

pub returns-in-Ok-Complete : goal.returns-in-Ok-Complete
returns-in-Ok-Complete c =
    let input = c.args.input.now in
    let head_end = c.in-Ok-Complete.spans.len in
    head-asks _ c.args.building.now c.min.result input c.parse_request.new.headers c.in-Ok-Complete.spans _
    (search rules) (search rules)
    (rw c.in-Ok-Complete.field-0-is at c.in-Ok-Complete.ensures.within)
    (rw c.in-Ok-Complete.field-0-is at c.in-Ok-Complete.ensures.complete)
    (λ head parts. subst (λ l. IfOk c.asked_after.result (IsAskedBy c.args.building.now (route_asked head) l)) (take_rest input head_end)
    (c.asked_after.ensures head parts))

pub returns-in-Ok-Partial : goal.returns-in-Ok-Partial
returns-in-Ok-Partial c =
    inr (
      unfinished-none c.min.result c.args.input.now c.min.ensures
          (rw c.in-Ok-Partial.field-0-is at c.in-Ok-Partial.ensures.partial),
      refl,
    )

pub returns-in-Err : goal.returns-in-Err
returns-in-Err c = inr (overflowing-none c.min.result c.args.input.now (search rules), refl)
