use Rattle.panel_http.proofs.ServingLemmas.{serves-answer}
use Rattle.panel_http.proofs.serving.serve_request.Goals as goal

pub returns-clause-serves : goal.returns-clause-serves
returns-clause-serves g c = λ bytes earlier read_before read_after some is honest holds.
    serves-answer _ earlier bytes c.args.request.now c.answer-response.result _ _ _ _ _ _ _ _ _ _ some is
    (c.answer-response.ensures.answers earlier honest holds) c.answer-response.ensures.not_recorded c.write_answer.ensures
