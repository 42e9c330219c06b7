use Rattle.std.proofs.Common.{rules, ◌≡◌, ◌∙◌, ℕ, List, true, sym, ap}
use Rattle.std.specs.List.{list_all}
use Rattle.matchit.specs.Params.{walk}
use Rattle.panel_http.specs.Routes.{is_ascii_byte}
use Rattle.panel_http.proofs.PartLemmas.{part-reported}
use Rattle.panel_http.proofs.routes.part_taken.Goals as goal

pub returns : goal.returns
returns c =
    let params = c.args.params.now in
    let target = c.args.target.now in
    let steps = c.in_ok-part.ensures.steps in
    let all : list_all is_ascii_byte target ≡ true = search rules in
    let walked =
    c.iter.ensures.value ∙ ap (λ (path : List ℕ). walk params.pattern.now params.text.now path params.names.now 0 0) c.requires in
    part-reported params.pattern.now params.text.now target params.names.now steps.0 c.next.new.self c.in_ok-part.part.now
    all (sym walked ∙ steps.1) steps.3
