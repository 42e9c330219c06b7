use Rattle.std.proofs.Common.{◌≡◌, ◌∙◌, ◌++◌, codes, rules, arith, ap, append_assoc, string_bytes}
use Rattle.std.specs.FinMap.{get}
use Rattle.panel_http.specs.Responses.{place_text}
use Rattle.panel_http.proofs.PlaceLemmas.{other_place, others-more, others_before}
use Rattle.panel_http.proofs.point_text.push_others.Goals as goal

pub loop-priority-preserved : goal.loop-priority-preserved
loop-priority-preserved c =
    let before = string_bytes c.loop-priority.text in
    let comma : string_bytes c.push_str.new.self ≡ before ++ codes "," = search rules in
    let place : string_bytes c.push_place.new.text ≡ string_bytes c.push_str.new.self ++ place_text c.value_at.result = search rules in
    let value : c.value_at.result ≡ get c.args.places.now c.loop-priority.priority = search rules in
    let pushed : string_bytes c.push_place.new.text ≡ before ++ other_place c.args.places.now c.loop-priority.priority =
    place ∙ ap (λ l. l ++ place_text c.value_at.result) comma
    ∙ append_assoc before (codes ",") (place_text c.value_at.result)
    ∙ ap (λ v. before ++ (codes "," ++ place_text v)) value in
    pushed ∙ others-more c.args.places.now c.loop-priority.priority _ _ (omega (arith, c.loop-priority.auto.priority)) c.loop-priority.invariant

pub returns : goal.returns
returns c =
    let last : c.loop-priority.priority ≡ 17 =
    omega (arith, c.loop-priority.auto.priority, c.loop-priority.auto.priority-end, c.loop-priority-test.false) in
    c.loop-priority.invariant ∙ ap (λ n. string_bytes c.args.text.now ++ others_before c.args.places.now n) last
