use Rattle.std.proofs.Common.{◌≡◌, ◌∙◌, Err, Ok, OnOk, Result, Some, ap, subst}
use Rattle.std.specs.Io.Buffered.{reader_remaining}
use Rattle.building.specs.Building.{Building}
use Rattle.cli_common.proofs.PrintedLemmas.{Keeps-same}
use Rattle.desk_cli.specs.Until.{IsUntil, said_in, until_line}
use Rattle.desk_cli.proofs.ReplayLemmas.{Replays-Keeps, Replays-done}
use Rattle.desk_cli.proofs.StopLemmas.{no_more-lines, no_more-points, no_more-told}
use Rattle.desk_cli.proofs.replay_run.print_list.Goals as goal

-- what holds at all holds at an `Ok`
of_any : {T E : Type 0} (r : Result T E) (P : Type 0) → P → OnOk r P
of_any {T} {E} (Ok x) P p = p
of_any {T} {E} (Err e) P p = tt

pub returns-clause-done : goal.returns-clause-done
returns-clause-done g c =
    of_any c.flush.result _ (λ file_bytes list_bytes E honest file list holds.
    let until = subst (λ (b : Building). IsUntil b (said_in c.args.said) c.in_ok-until.until) c.building.ensures c.in_ok-until.ensures.until in
    let list_is : reader_remaining g.D.Read.remaining c.in-Ok.reader ≡ Some list_bytes = list (Ok c.in-Ok.reader) c.in-Ok.ensures in
    let prints = c.in_ok-print_replies-in-Ok.ensures.prints list_bytes E (c.in_ok-print_points.ensures.honest honest) list_is holds in
    let told : c.as_bytes.result.now ≡ until_line c.args.desk.now.building c.in_ok-until.until = c.as_bytes.ensures.value
    ∙ (c.in_ok-told.ensures ∙ ap (λ (b : Building). until_line b c.in_ok-until.until) c.building-2.ensures) in
    Replays-Keeps (said_in c.args.said) file_bytes E list_bytes _ _ _
    (Replays-done (said_in c.args.said) c.in_ok-until.until file_bytes E list_bytes c.args.desk.now.building
    c.print_replies.new.desk.building _ _ _ _ _ _
    file until prints c.in_ok-print_replies-in-Ok.ensures.building (c.in_ok-print_points.ensures.whole honest) told
    c.in_ok-print_text.ensures.whole) c.flush.ensures)

pub returns-clause-no_more : goal.returns-clause-no_more
returns-clause-no_more g c = λ file_bytes list_bytes E honest file list holds.
    let until = subst (λ (b : Building). IsUntil b (said_in c.args.said) c.in_ok-until.until) c.building.ensures c.in_ok-until.ensures.until in
    let list_is : reader_remaining g.D.Read.remaining c.in-Ok.reader ≡ Some list_bytes = list (Ok c.in-Ok.reader) c.in-Ok.ensures in
    let prints = c.in_ok-print_replies-in-Ok.ensures.prints list_bytes E (c.in_ok-print_points.ensures.honest honest) list_is holds in
    let told : c.as_bytes.result.now ≡ until_line c.args.desk.now.building c.in_ok-until.until = c.as_bytes.ensures.value
    ∙ (c.in_ok-told.ensures ∙ ap (λ (b : Building). until_line b c.in_ok-until.until) c.building-2.ensures) in
    no_more-told (said_in c.args.said) c.in_ok-until.until file_bytes E list_bytes c.args.desk.now.building
    c.print_replies.new.desk.building _ _ _ _ _ _ _
    file until prints c.in_ok-print_replies-in-Ok.ensures.building (c.in_ok-print_points.ensures.whole honest) told
    c.in_ok-print_text.ensures.no_more c.flush.ensures

pub returns-in_err-print_text-clause-no_more : goal.returns-in_err-print_text-clause-no_more
returns-in_err-print_text-clause-no_more g c = λ file_bytes list_bytes E honest file list holds.
    let until = subst (λ (b : Building). IsUntil b (said_in c.args.said) c.in_ok-until.until) c.building.ensures c.in_ok-until.ensures.until in
    let list_is : reader_remaining g.D.Read.remaining c.in-Ok.reader ≡ Some list_bytes = list (Ok c.in-Ok.reader) c.in-Ok.ensures in
    let prints = c.in_ok-print_replies-in-Ok.ensures.prints list_bytes E (c.in_ok-print_points.ensures.honest honest) list_is holds in
    let told : c.as_bytes.result.now ≡ until_line c.args.desk.now.building c.in_ok-until.until = c.as_bytes.ensures.value
    ∙ (c.in_ok-told.ensures ∙ ap (λ (b : Building). until_line b c.in_ok-until.until) c.building-2.ensures) in
    no_more-told (said_in c.args.said) c.in_ok-until.until file_bytes E list_bytes c.args.desk.now.building
    c.print_replies.new.desk.building _ _ _ _ _ _ _
    file until prints c.in_ok-print_replies-in-Ok.ensures.building (c.in_ok-print_points.ensures.whole honest) told
    c.print_text.ensures.no_more (Keeps-same _)

pub returns-in_err-print_points-clause-no_more : goal.returns-in_err-print_points-clause-no_more
returns-in_err-print_points-clause-no_more g c = λ file_bytes list_bytes E honest file list holds.
    let until = subst (λ (b : Building). IsUntil b (said_in c.args.said) c.in_ok-until.until) c.building.ensures c.in_ok-until.ensures.until in
    let list_is : reader_remaining g.D.Read.remaining c.in-Ok.reader ≡ Some list_bytes = list (Ok c.in-Ok.reader) c.in-Ok.ensures in
    let prints = c.in_ok-print_replies-in-Ok.ensures.prints list_bytes E (c.print_points.ensures.honest honest) list_is holds in
    no_more-points (said_in c.args.said) c.in_ok-until.until file_bytes E list_bytes c.args.desk.now.building
    c.print_replies.new.desk.building _ _ _ _ _
    file until prints c.in_ok-print_replies-in-Ok.ensures.building (c.print_points.ensures.no_more honest) (Keeps-same _)

pub returns-in_err-print_replies-in-Ok-clause-no_more : goal.returns-in_err-print_replies-in-Ok-clause-no_more
returns-in_err-print_replies-in-Ok-clause-no_more g c = λ file_bytes list_bytes E honest file list holds.
    let until = subst (λ (b : Building). IsUntil b (said_in c.args.said) c.in_ok-until.until) c.building.ensures c.in_ok-until.ensures.until in
    let list_is : reader_remaining g.D.Read.remaining c.in-Ok.reader ≡ Some list_bytes = list (Ok c.in-Ok.reader) c.in-Ok.ensures in
    no_more-lines (said_in c.args.said) c.in_ok-until.until file_bytes E list_bytes c.args.desk.now.building _ _ _
    file until (c.print_replies.ensures.no_more list_bytes E honest list_is holds) (Keeps-same _)
