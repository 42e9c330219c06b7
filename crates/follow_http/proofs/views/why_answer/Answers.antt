use Rattle.std.proofs.Common.{◌∙◌, sym}
use Rattle.follow_http.proofs.WhyLemmas.{named-again, why-says}
use Rattle.follow_http.proofs.views.why_answer.Goals as goal

pub returns-in-Ok-clause-says : goal.returns-in-Ok-clause-says
returns-in-Ok-clause-says c = λ earlier deliveries followed.
    let b = c.args.building.now in
    let named = sym c.in-Some.ensures in
    why-says b earlier deliveries c.args.name.now c.in-Some.point.now c.in_ok-now.now c.as_str.result.now c.viewed.result named
    (c.in_ok-now.ensures.why earlier deliveries followed (named-again b c.args.name.now c.in-Some.point.now named))
    (c.as_str.ensures.value ∙ c.in-Ok.ensures) c.viewed.ensures
