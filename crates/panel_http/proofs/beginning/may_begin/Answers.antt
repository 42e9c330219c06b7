use Rattle.std.proofs.Common.{◌≡◌, sym, ◌∙◌, true}
use Rattle.std.proofs.lemmas.Bool.{false≢true}
use Rattle.panel_http.proofs.HeadEndings.{by-ending, finishes}
use Rattle.panel_http.proofs.beginning.may_begin.Goals as goal

pub returns-clause-exact : goal.returns-clause-exact
returns-clause-exact c = λ may.
    let (ending, is, head, is_head) = finishes c.args.start.now c.requires may in
    by-ending c.args.start.now ending head (c.completes-2.result ≡ true) is is_head
    (λ of. absurd (false≢true (sym c.if-an_end_completes.false ∙ c.an_end_completes.ensures.exact ending head of is_head)))
    (λ of. absurd (false≢true (sym c.if-an_end_completes-2.false ∙ c.an_end_completes-2.ensures.exact ending head of is_head)))
    (λ of. absurd (false≢true (sym c.if-an_end_completes-3.false ∙ c.an_end_completes-3.ensures.exact ending head of is_head)))
    (λ with. absurd (false≢true (sym c.if-completes.false ∙ c.completes.ensures.exact head with)))
    (λ with. c.completes-2.ensures.exact head with)
