use Rattle.std.proofs.Common.{◌≡◌, ◌∙◌, rules, sym}
use Rattle.panel_http.proofs.NumberLemmas.{number-read, number-text}
use Rattle.panel_http.proofs.content_length.number_in.Goals as goal

pub returns-in_err-ok : goal.returns-in_err-ok
returns-in_err-ok c =
    let text = number-text c.args.value.now (sym c.is_number.ensures ∙ c.if-is_number.true) in search rules

pub returns-in_ok-ok : goal.returns-in_ok-ok
returns-in_ok-ok c =
    let same : c.in_ok-ok.field-0.now ≡ c.args.value.now = search rules in
    c.ok-then-is_number.ensures.value
    ∙ number-read c.args.value.now c.parse.result (sym c.is_number.ensures ∙ c.if-is_number.true) (rw same at c.parse.ensures.value.0)
