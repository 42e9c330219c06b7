use Rattle.std.proofs.Common.{◌≡◌, List, map, string_bytes}
use Rattle.std.specs.List.{All, flat_map}
use Rattle.points.specs.Texts.{Text}
use Rattle.desk_overrides.specs.declared.overriding.Look.{Look}
use Rattle.desk_overrides.specs.declared.watch.Watch.{Watch}
use Rattle.desk_overrides.specs.Watched.{Knows, lines_in}
use Rattle.desk_overrides.proofs.watching.lines_of.Given as goal

abbrev pub invariant-loop-watch : goal.invariant-loop-watch
invariant-loop-watch l = (seen : Text → List Look) → All (λ (watch : Watch). Knows watch (seen watch.point)) l.fn.watches.items
    → string_bytes l.text ≡ flat_map (lines_in l.building l.last l.from seen) (map (λ (watch : Watch). watch.point) l.yielded)
