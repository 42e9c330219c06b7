use Rattle.std.proofs.Common.{FitsSigned, w64, ◌-ℤ◌, arith, refl}
use Rattle.std.proofs.lemmas.Int.{to_z-of_z}
use Rattle.jiff_core.proofs.SignedLemmas.{signed_arith}
use Rattle.moments.proofs.clock_search.moment_ahead.Goals as goal

pub returns-then-shows-clause-found : goal.returns-then-shows-clause-found
returns-then-shows-clause-found c =
    let ahead : FitsSigned w64 c.args.ahead = c.ranges.ahead in
    let clock : FitsSigned w64 c.clock_of.result = omega (arith, signed_arith) in
    let at : FitsSigned w64 (c.clock_of.result -ℤ c.args.ahead) = omega (arith, signed_arith) in
    let shows = simp to_z-of_z at (c.if-shows.ensures.shows refl) in
    simp to_z-of_z (shows, omega (arith, signed_arith))
