-- When a command is parked, and when a plan for a command or a skip is right.
use Rattle.std.specs.Prelude.{◌≡◌, ◌&&◌, nat_lt, if◌then◌else◌, Option, Some, None}
use Rattle.points.specs.declared.command_row.CommandRow.{CommandRow}
use Rattle.window.specs.declared.numbered_content.NumberedContent.{NumberedContent}
use Rattle.window.specs.declared.plan.Plan.{Plan}
use Rattle.window.specs.Applied.{applied}
use Rattle.window.specs.Taken.{Ask, Command, Skip, Taken, take, front, accepts}
use Rattle.window.specs.Verdict.{verdict_of}

-- a command that is accepted past the front is parked
abbrev pub parked_by : Taken → Ask → Option NumberedContent
parked_by earlier (Command number content) =
    if accepts earlier number && nat_lt (front earlier) number then Some (record { number = number; content = content }) else None
parked_by earlier (Skip upto) = None

-- a plan says what one ask more does: the front that it leaves, the contents that are applied, the command that
-- is parked, and the verdict
pub record Plans (earlier : Taken) (ask : Ask) (asked : Option CommandRow) (plan : Plan) : Type 0 where
  pub next : plan.next ≡ front (take earlier ask)
  pub apply : plan.apply ≡ applied earlier (take earlier ask)
  pub park : plan.park ≡ parked_by earlier ask
  pub verdict : plan.verdict ≡ verdict_of earlier ask asked
