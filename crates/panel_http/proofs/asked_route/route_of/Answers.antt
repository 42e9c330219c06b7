use Rattle.std.proofs.Common.{◌∙◌, ap, sym, option_map}
use Rattle.std.specs.Option.{is_some}
use Rattle.std.proofs.lemmas.Bool.{false≢true}
use Rattle.panel_http.proofs.MethodLemmas.{no_route-of_long}
use Rattle.panel_http.specs.Routes.{route_value}
use Rattle.panel_http.specs.declared.route.FoundRoute.{FoundRoute}
use Rattle.panel_http.proofs.asked_route.route_of.Goals as goal

pub returns-in_err-method-clause-route : goal.returns-in_err-method-clause-route
returns-in_err-method-clause-route c =
    let failed = sym c.ok.ensures.variant ∙ ap is_some c.in_err-method.was in
    let made = c.from_bytes.ensures.no_memory_needed in
    ap (option_map (λ (found : FoundRoute). route_value found.route)) c.from_residual.ensures
    ∙ sym (no_route-of_long c.args.method.now c.args.target.now (λ token short. false≢true (sym failed ∙ made token short)))
