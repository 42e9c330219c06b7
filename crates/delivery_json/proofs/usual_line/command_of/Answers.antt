use Rattle.std.proofs.Common.{◌≡◌, pos, of_z, to_z, unwrap_or, w64, rules}
use Rattle.delivery_json.proofs.UsualLemmas.{command_reported}
use Rattle.delivery_json.proofs.usual_line.command_of.Goals as goal

pub returns : goal.returns
returns c = λ ms is.
    let number = c.in_ok-members-4.field-0 in
    let priority = c.unwrap_or.result in
    let whole : to_z w64 (of_z w64 number) ≡ number = search rules in
    let whole_priority : to_z w64 (of_z w64 priority) ≡ priority = search rules in
    let default : priority ≡ unwrap_or c.args.members.now.priority (pos 16) = search rules in
    rw (whole, whole_priority, default)
    (command_reported c.args.members.now ms is c.in_ok-members-3.field-0 c.in_ok-members.field-0 number c.in_ok-members-2.field-0
    c.in_ok-members-3.was c.in_ok-members-4.was c.in_ok-members.was c.in_ok-members-2.was)
