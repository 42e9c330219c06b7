use Rattle.std.proofs.lemmas.Str.{is_utf8-from_IsUtf8}
use Rattle.panel_http.proofs.asked_route.asked_by.Goals as goal

pub returns-in_err-target : goal.returns-in_err-target
returns-in_err-target c = λ utf8.
    let reported = rw (is_utf8-from_IsUtf8 c.args.target.now utf8, c.in_err-target.ensures.ok_part) at c.text_of.ensures in absurd (cc reported)
