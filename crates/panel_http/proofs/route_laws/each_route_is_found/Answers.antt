use Rattle.std.proofs.Common.{refl}
use Rattle.matchit.proofs.OnLiterals.{matchit_on_literals}
use Rattle.panel_http.proofs.route_laws.each_route_is_found.Goals as goal

pub returns : goal.returns
unfolding matchit_on_literals
returns c = record {
  commands = refl;
  skip = refl;
  tick = refl;
  imports = refl;
  point = refl;
  report = refl;
  points = refl;
  why = refl;
  panel = refl;
  «record» = refl;
  metrics = refl;
  other_method = refl;
  other_target = refl;
}
