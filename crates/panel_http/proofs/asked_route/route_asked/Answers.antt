use Rattle.std.proofs.Common.{◌∙◌, ap, ap₂, IsUtf8, subst, sym}
use Rattle.panel_http.specs.BodyLength.{body_length}
use Rattle.panel_http.specs.Routes.{route_of}
use Rattle.panel_http.specs.AskedRoute.{of_length, route_asked}
use Rattle.panel_http.proofs.asked_route.route_asked.Goals as goal

pub returns : goal.returns
unfolding route_asked
returns c = λ head parts.
    let text : IsUtf8 c.of-2.result.now = subst IsUtf8 (sym (c.of-2.ensures ∙ parts.path)) parts.reads.0.target_text in
    c.asked_by.ensures text
    ∙ ap₂ of_length (c.body_length-length.ensures ∙ ap body_length parts.fields)
    (ap₂ route_of (c.of.ensures ∙ parts.method) (c.of-2.ensures ∙ parts.path))
