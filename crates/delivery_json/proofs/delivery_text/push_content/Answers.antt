use Rattle.std.proofs.Common.{◌≡◌, ◌∙◌, ◌++◌, ℕ, List, ap, append_assoc, codes, string_bytes}
use Rattle.std.specs.Fmt.{signed_decimal}
use Rattle.delivery_json.specs.DeliveryText.{content_text, value_text}
use Rattle.delivery_json.proofs.delivery_text.push_content.Goals as goal

-- the value, after the members before it
joined : (old a point b priority c value mid new : List ℕ) → mid ≡ old ++ (a ++ (point ++ (b ++ (priority ++ c))))
    → new ≡ mid ++ value → new ≡ old ++ (a ++ (point ++ (b ++ (priority ++ (c ++ value)))))
joined old a point b priority c value mid new before after = after ∙ ap (λ text. text ++ value) before ∙ simp append_assoc

pub returns : goal.returns
unfolding content_text
returns c =
    let content = c.args.content.now in
    joined (string_bytes c.args.line.now) (codes "\"point\":\"") content.point (codes "\",\"priority\":")
    (signed_decimal content.priority) (codes ",\"value\":") (value_text content.value) (string_bytes c.write.new.self)
    (string_bytes c.push_value.new.line) c.in_ok-write.ensures.bytes c.in_ok-push_value.ensures
