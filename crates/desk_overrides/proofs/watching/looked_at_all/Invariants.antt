use Rattle.std.proofs.Common.{◌≡◌, [], ◌∷◌, ◌++◌, List, map}
use Rattle.std.specs.List.{All}
use Rattle.points.specs.Texts.{Text}
use Rattle.desk_overrides.specs.declared.overriding.Look.{Look}
use Rattle.desk_overrides.specs.declared.watch.Watch.{Watch}
use Rattle.desk_overrides.specs.Watched.{Knows, given_from}
use Rattle.desk_why.specs.AuthorsTable.{held_in}
use Rattle.desk_overrides.proofs.watching.looked_at_all.Given as goal

abbrev pub invariant-loop-watch : goal.invariant-loop-watch
invariant-loop-watch l = record {
  points : map (λ (watch : Watch). watch.point) l.after.items ≡ map (λ (watch : Watch). watch.point) l.yielded;
  known : (seen : Text → List Look) → All (λ (watch : Watch). Knows watch (seen watch.point)) l.fn.watches.items
      → All (λ (watch : Watch). Knows watch (seen watch.point
      ++ record { given = given_from (held_in l.authors watch.point); last = l.last } ∷ [])) l.after.items;
}
