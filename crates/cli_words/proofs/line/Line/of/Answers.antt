use Rattle.std.proofs.Common.{◌≡◌, ◌∙◌, List, [], Result, Ok, Err, map, string_bytes, sym, ap, subst}
use Rattle.std.specs.Prelude.{IfOk, IfSome, Option, Some, option_and_then}
use Rattle.std.specs.Result.{result_ok}
use Rattle.clap.specs.Words.{App, Row, Text, app_of, fault_of, is_simple, is_simple_and_free, subcommand_of, subcommand_rows_of}
use Rattle.cli_words.specs.ArgFault.{IsRefusedBy}
use Rattle.cli_words.specs.declared.arg_fault.ArgFault.{ArgFault}
use Rattle.cli_words.specs.declared.line.Line.{Line}
use Rattle.cli_words.specs.Line.{asked, asked_in, line_value, desk_app}
use Rattle.cli_words.proofs.line.Line.of.Goals as goal

-- what holds at all holds at an `Ok`
of_any : {T E : Type 0} (r : Result T E) (P : Type 0) → P → IfOk r (λ _. P)
of_any {T} {E} (Ok x) P p = p
of_any {T} {E} (Err e) P p = tt

-- what is asked by the line, if there is one
of_line : (words : List Text) (r : Result Line ArgFault) → IfSome (result_ok r) (λ line. asked words ≡ Some (line_value line))
    → IfOk r (λ line. asked words ≡ Some (line_value line))
of_line words (Ok line) is = is
of_line words (Err fault) is = tt

pub returns-in-Ok-clause-takes : goal.returns-in-Ok-clause-takes
returns-in-Ok-clause-takes c =
    let app_is : app_of c.in_ok-desk.desk ≡ desk_app = c.in_ok-desk.ensures.0 in
    let words : List Text = map string_bytes c.args.words.now in
    of_any c.ok_or.result (fault_of desk_app words ≡ [])
    (ap (λ (app : App). fault_of app words) (sym app_is) ∙ c.in-Ok.ensures.kinds (ap is_simple_and_free app_is))

pub returns-in-Ok-clause-asks : goal.returns-in-Ok-clause-asks
returns-in-Ok-clause-asks c =
    let app_is : app_of c.in_ok-desk.desk ≡ desk_app = c.in_ok-desk.ensures.0 in
    let words : List Text = map string_bytes c.args.words.now in
    let rows : subcommand_rows_of c.in-Ok.matches ≡ subcommand_of desk_app words =
    (c.in-Ok.ensures.matches (ap is_simple app_is)).1 ∙ ap (λ (app : App). subcommand_of app words) app_is in
    let is : IfSome c.line_in.result (λ line. asked words ≡ Some (line_value line)) =
    subst (λ (it : Option (Text × List Row)). IfSome c.line_in.result (λ line. option_and_then asked_in it ≡ Some (line_value line)))
    rows c.line_in.ensures in
    of_line words c.ok_or.result
    (subst (λ (it : Option Line). IfSome it (λ line. asked words ≡ Some (line_value line))) c.ok_or.ensures.ok_part is)

pub returns-in-Err-clause-refuses : goal.returns-in-Err-clause-refuses
returns-in-Err-clause-refuses c =
    let app_is : app_of c.in_ok-desk.desk ≡ desk_app = c.in_ok-desk.ensures.0 in
    let words : List Text = map string_bytes c.args.words.now in
    subst (λ (app : App). IsRefusedBy (fault_of app words) c.fault_in.result) app_is
    (c.fault_in.ensures (fault_of (app_of c.in_ok-desk.desk) words) (c.in-Err.ensures.kinds (ap is_simple_and_free app_is)))
