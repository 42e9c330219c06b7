use Rattle.std.proofs.Common.{◌∙◌, ap}
use Rattle.panel_http.specs.Responses.{report_said}
use Rattle.follow_http.proofs.views.day_answer.Goals as goal

pub returns-in-Ok-clause-says : goal.returns-in-Ok-clause-says
returns-in-Ok-clause-says c = λ earlier deliveries followed. (
  report_said c.as_str.result.now,
  c.in-Ok.ensures,
  λ imported tells. ap report_said (c.as_str.ensures.value ∙ c.in_ok-report.ensures.text earlier deliveries followed imported tells),
)
