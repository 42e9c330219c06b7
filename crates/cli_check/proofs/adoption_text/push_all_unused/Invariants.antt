use Rattle.std.proofs.Common.{◌≡◌, ◌++◌, take, string_bytes}
use Rattle.std.specs.List.{flat_map}
use Rattle.cli_check.specs.AdoptionRun.{unused_line}
use Rattle.cli_check.proofs.adoption_text.push_all_unused.Given as goal

-- the lines so far
abbrev pub invariant-loop-unused : goal.invariant-loop-unused
invariant-loop-unused l = string_bytes l.text ≡ string_bytes l.initial.text ++ flat_map unused_line (take l.unused-index l.all)
