use Rattle.std.proofs.Common.{◌≡◌, take, string_bytes}
use Rattle.std.specs.List.{flat_map}
use Rattle.cli_check.specs.DatabaseCheck.{finding_line}
use Rattle.cli_check.proofs.survey_text.findings_text.Given as goal

-- the lines so far
abbrev pub invariant-loop-finding : goal.invariant-loop-finding
invariant-loop-finding l = string_bytes l.text ≡ flat_map finding_line (take l.finding-index l.findings)
