use Rattle.std.proofs.Common.{◌≡◌, ◌∙◌, Err, Ok, OnOk, Result, ap, inl}
use Rattle.deliveries.specs.StraightList.{straight_list}
use Rattle.cli_common.proofs.PrintedLemmas.{Keeps-same}
use Rattle.desk_cli.proofs.StraightenLemmas.{straightens_start, straightens_whole}
use Rattle.desk_cli.proofs.straighten_run.straighten_over.Goals as goal

-- what holds at all holds at an `Ok`
of_any : {T E : Type 0} (r : Result T E) (P : Type 0) → P → OnOk r P
of_any {T} {E} (Ok x) P p = p
of_any {T} {E} (Err e) P p = tt

pub returns-clause-done : goal.returns-clause-done
returns-clause-done g c = of_any c.flush.result _ (λ file_bytes list_bytes file list.
    let b = c.in_ok-building.building in
    let straight_is : c.as_slice-2.result.now ≡ straight_list b c.in_ok-deliveries.deliveries.items =
    c.as_slice-2.ensures.value ∙ (c.in_ok-straight.ensures.list ∙ ap (straight_list b) c.as_slice.ensures.value) in
    straightens_whole file_bytes list_bytes b c.in_ok-deliveries.deliveries.items c.as_slice-2.result.now _ _ _
    (c.in_ok-building.ensures file_bytes file) (c.in_ok-deliveries.ensures list_bytes list) straight_is
    c.in_ok-print_deliveries.ensures.whole c.flush.ensures)

pub returns-clause-no_more : goal.returns-clause-no_more
returns-clause-no_more g c = λ file_bytes list_bytes file list.
    let b = c.in_ok-building.building in
    let straight_is : c.as_slice-2.result.now ≡ straight_list b c.in_ok-deliveries.deliveries.items =
    c.as_slice-2.ensures.value ∙ (c.in_ok-straight.ensures.list ∙ ap (straight_list b) c.as_slice.ensures.value) in
    straightens_start file_bytes list_bytes b c.in_ok-deliveries.deliveries.items c.as_slice-2.result.now _ _ _
    (c.in_ok-building.ensures file_bytes file) (c.in_ok-deliveries.ensures list_bytes list) straight_is
    c.print_deliveries.ensures.no_more c.flush.ensures

pub returns-in_err-print_deliveries-clause-no_more : goal.returns-in_err-print_deliveries-clause-no_more
returns-in_err-print_deliveries-clause-no_more g c = λ file_bytes list_bytes file list.
    let b = c.in_ok-building.building in
    let straight_is : c.as_slice-2.result.now ≡ straight_list b c.in_ok-deliveries.deliveries.items =
    c.as_slice-2.ensures.value ∙ (c.in_ok-straight.ensures.list ∙ ap (straight_list b) c.as_slice.ensures.value) in
    straightens_start file_bytes list_bytes b c.in_ok-deliveries.deliveries.items c.as_slice-2.result.now _ _ _
    (c.in_ok-building.ensures file_bytes file) (c.in_ok-deliveries.ensures list_bytes list) straight_is
    c.print_deliveries.ensures.no_more (Keeps-same _)

pub returns-in_err-straight-clause-no_more : goal.returns-in_err-straight-clause-no_more
returns-in_err-straight-clause-no_more g c = λ file_bytes list_bytes file list. inl (Keeps-same _)

pub returns-in_err-deliveries-clause-no_more : goal.returns-in_err-deliveries-clause-no_more
returns-in_err-deliveries-clause-no_more g c = λ file_bytes list_bytes file list. inl (Keeps-same _)

pub returns-in_err-building-clause-no_more : goal.returns-in_err-building-clause-no_more
returns-in_err-building-clause-no_more g c = λ file_bytes list_bytes file list. inl (Keeps-same _)
