-- What a body that was compared with the desk's own form tells.
use Rattle.std.proofs.Common.{◌≡◌, ◌∙◌, List, ℕ, Option, Some, option_and_then, refl, true, ap}
use Rattle.delivery_json.specs.CommandMembers.{IsBody}
use Rattle.delivery_json.specs.DeliveryLine.{json_of}
use Rattle.delivery_json.specs.Members.{has_only}
use Rattle.delivery_json.specs.declared.panel_line.CommandBody.{CommandBody}
use Rattle.panel_http.specs.RequestBody.{command_body, command_by, command_in, command_keys, command_of, named}

pub written_command : (segment : Option (List ℕ)) (body : List ℕ) (command : CommandBody) → IsBody (json_of body) command
    → command_body segment body ≡ Some (command_by (named segment) command)
unfolding command_body command_in
written_command segment body command (ms, is, told, only) =
    let known : has_only command_keys ms ≡ true = only in
    ap (λ o. option_and_then (command_of (named segment)) o) is ∙ rw (told, known) refl
