use Rattle.std.proofs.Common.{◌≡◌, ◌++◌, string_bytes, take}
use Rattle.std.specs.List.{filter, flat_map}
use Rattle.desk_overrides.specs.Lines.{is_asked, override_line}
use Rattle.desk_overrides.proofs.lines.push_lines.Given as goal

abbrev pub invariant-loop-it : goal.invariant-loop-it
invariant-loop-it l = string_bytes l.text ≡ string_bytes l.initial.text
    ++ flat_map (override_line l.building l.last l.point) (filter (is_asked l.from) (take l.it-index l.overrides))
