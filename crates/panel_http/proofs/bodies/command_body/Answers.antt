use Rattle.std.proofs.Common.{◌∙◌, Some, ap, option_map, sym}
use Rattle.panel_http.specs.RequestBody.{command_by}
use Rattle.panel_http.proofs.WrittenBodyLemmas.{written_command}
use Rattle.panel_http.proofs.bodies.command_body.Goals as goal

pub returns-in-Some : goal.returns-in-Some
returns-in-Some c =
    written_command (option_map (λ s. s.now) c.args.panel) c.args.body.now c.in-Some.command c.in-Some.ensures
    ∙ ap (λ p. Some (command_by p c.in-Some.command)) (sym c.named.ensures) ∙ ap Some (sym c.command_by.ensures)
