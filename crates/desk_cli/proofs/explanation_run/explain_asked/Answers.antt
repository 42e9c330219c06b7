use Rattle.std.proofs.Common.{◌∙◌, Err, List, Ok, OnOk, Result, ap}
use Rattle.deliveries.specs.declared.delivery.Delivery.{Delivery}
use Rattle.cli_common.proofs.PrintedLemmas.{Keeps-same}
use Rattle.desk_cli.specs.Until.{said_in}
use Rattle.desk_cli.specs.Question.{explanation}
use Rattle.desk_cli.proofs.ExplainedLemmas.{Found, explains_start, explains_whole}
use Rattle.desk_cli.proofs.explanation_run.explain_asked.Goals as goal

-- what holds at all holds at an `Ok`
of_any : {T E : Type 0} (r : Result T E) (P : Type 0) → P → OnOk r P
of_any {T} {E} (Ok x) P p = p
of_any {T} {E} (Err e) P p = tt

pub returns-clause-done : goal.returns-clause-done
returns-clause-done g c = of_any c.flush.result _ (λ file_bytes list_bytes E file list held.
    let b = c.args.building.now in
    let asked = c.in_ok-asked.asked in
    let found : Found file_bytes E list_bytes c.args.question (said_in c.args.said) b asked c.in_ok-deliveries.deliveries.items c.as_bytes.result.now =
    record {
      until = c.in_ok-until.until;
      building_is = file;
      asked_is = c.in_ok-asked.ensures;
      until_is = c.in_ok-until.ensures.until;
      collects = c.in_ok-deliveries.ensures list_bytes list;
      text_is = c.as_bytes.ensures.value
          ∙ (c.in_ok-text.ensures E held
          ∙ ap (λ (deliveries : List Delivery). explanation b E deliveries asked c.in_ok-until.until) c.as_slice.ensures.value);
    } in
    explains_whole file_bytes E list_bytes c.args.question (said_in c.args.said) b asked c.in_ok-deliveries.deliveries.items
    c.as_bytes.result.now _ _ _ found c.in_ok-print_text.ensures.whole c.flush.ensures)

pub returns-clause-no_more : goal.returns-clause-no_more
returns-clause-no_more g c = λ file_bytes list_bytes E file list held.
    let b = c.args.building.now in
    let asked = c.in_ok-asked.asked in
    let found : Found file_bytes E list_bytes c.args.question (said_in c.args.said) b asked c.in_ok-deliveries.deliveries.items c.as_bytes.result.now =
    record {
      until = c.in_ok-until.until;
      building_is = file;
      asked_is = c.in_ok-asked.ensures;
      until_is = c.in_ok-until.ensures.until;
      collects = c.in_ok-deliveries.ensures list_bytes list;
      text_is = c.as_bytes.ensures.value
          ∙ (c.in_ok-text.ensures E held
          ∙ ap (λ (deliveries : List Delivery). explanation b E deliveries asked c.in_ok-until.until) c.as_slice.ensures.value);
    } in
    explains_start file_bytes E list_bytes c.args.question (said_in c.args.said) b asked c.in_ok-deliveries.deliveries.items
    c.as_bytes.result.now _ _ _ found c.print_text.ensures.no_more c.flush.ensures

pub returns-in_err-print_text-clause-no_more : goal.returns-in_err-print_text-clause-no_more
returns-in_err-print_text-clause-no_more g c = λ file_bytes list_bytes E file list held.
    let b = c.args.building.now in
    let asked = c.in_ok-asked.asked in
    let found : Found file_bytes E list_bytes c.args.question (said_in c.args.said) b asked c.in_ok-deliveries.deliveries.items c.as_bytes.result.now =
    record {
      until = c.in_ok-until.until;
      building_is = file;
      asked_is = c.in_ok-asked.ensures;
      until_is = c.in_ok-until.ensures.until;
      collects = c.in_ok-deliveries.ensures list_bytes list;
      text_is = c.as_bytes.ensures.value
          ∙ (c.in_ok-text.ensures E held
          ∙ ap (λ (deliveries : List Delivery). explanation b E deliveries asked c.in_ok-until.until) c.as_slice.ensures.value);
    } in
    explains_start file_bytes E list_bytes c.args.question (said_in c.args.said) b asked c.in_ok-deliveries.deliveries.items
    c.as_bytes.result.now _ _ _ found c.print_text.ensures.no_more (Keeps-same _)
