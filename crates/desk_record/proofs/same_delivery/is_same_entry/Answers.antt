use Rattle.std.proofs.Common.{◌∙◌, sym, ap, string_bytes}
use Rattle.std.proofs.lemmas.Slice.Eq.{bytes_eq-Decides}
use Rattle.dates.specs.Entry.{reading}
use Rattle.dates.proofs.SpelledReads.{reading-text}
use Rattle.desk_record.proofs.same_delivery.is_same_entry.Goals as goal

pub returns : goal.returns
returns c = λ same.
    let texts = (bytes_eq-Decides (string_bytes c.in_ok-text.text) (string_bytes c.in_ok-other_text.other_text)).0 (sym c.eq.ensures ∙ same) in
    let spelled = sym c.in_ok-text.ensures.value ∙ texts ∙ c.in_ok-other_text.ensures.value in
    let read =
    sym (reading-text c.args.entry.now c.in_ok-text.ensures.range) ∙ ap reading spelled
    ∙ reading-text c.args.other.now c.in_ok-other_text.ensures.range in
    cc
