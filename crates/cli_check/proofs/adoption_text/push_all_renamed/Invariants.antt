use Rattle.std.proofs.Common.{◌≡◌, ◌++◌, take, string_bytes}
use Rattle.std.specs.List.{flat_map}
use Rattle.cli_check.specs.AdoptionRun.{renamed_line}
use Rattle.cli_check.proofs.adoption_text.push_all_renamed.Given as goal

-- the lines so far
abbrev pub invariant-loop-renamed : goal.invariant-loop-renamed
invariant-loop-renamed l = string_bytes l.text ≡ string_bytes l.initial.text ++ flat_map renamed_line (take l.renamed-index l.all)
