use Rattle.std.proofs.Common.{◌≡◌, ℕ, ◌≤◌, length}
use Rattle.json.specs.Json.{members, value}
use Rattle.serde_json.specs.Data.{Members, no_members}
use Rattle.serde_json.specs.Read.{converted, of_members}
use Rattle.delivery_json.specs.CommandMembers.{IsReadAs}
use Rattle.delivery_json.proofs.object_members.members_to_end.Given as goal

abbrev pub invariant-members : goal.invariant-members
invariant-members l =
    (n : ℕ) × (ms : Members) × (length l.reader ≤ n) × (length l.reader ≤ length l.initial.reader)
    × (converted (λ js. of_members js no_members) (members (value 126) (length l.initial.reader) l.initial.reader)
    ≡ converted (λ js. of_members js ms) (members (value 126) n l.reader))
    × IsReadAs l.parsed ms

abbrev pub decreases-members : goal.decreases-members
decreases-members l = length l.reader
