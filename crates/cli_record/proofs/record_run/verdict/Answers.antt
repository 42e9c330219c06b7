use Rattle.std.proofs.Common.{◌≡◌, ◌∙◌, ◌==◌, ap, false, length, rules, true}
use Rattle.std.specs.List.{flat_map}
use Rattle.cli_record.specs.RecordText.{difference_line}
use Rattle.cli_record.proofs.RunLemmas.{says-differences, says-unmade, says-whole}
use Rattle.cli_record.proofs.record_run.verdict.Goals as goal

pub returns-then-is_empty-clause-compared : goal.returns-then-is_empty-clause-compared
returns-then-is_empty-clause-compared c = λ b earlier deliveries held counted are.
    let none : (length c.args.compared.now.found.items == 0) ≡ true = search rules in
    says-whole b earlier held deliveries c.args.compared.now.found.items c.args.compared.now.lacks_last c.args.count _ counted none
    c.in_ok-whole_line.ensures are

pub returns-then-compared-clause-compared : goal.returns-then-compared-clause-compared
returns-then-compared-clause-compared c = λ b earlier deliveries held counted are.
    let some : (length c.args.compared.now.found.items == 0) ≡ false = search rules in
    says-unmade b earlier held deliveries c.args.compared.now.found.items c.args.compared.now.lacks_last c.args.count _ counted some c.if-compared.true
    c.in_ok-unmade_line.ensures are

pub returns-clause-compared : goal.returns-clause-compared
returns-clause-compared c = λ b earlier deliveries held counted are.
    let some : (length c.args.compared.now.found.items == 0) ≡ false = search rules in
    says-differences b earlier held deliveries c.args.compared.now.found.items c.args.compared.now.lacks_last _ some c.if-compared.false
    (c.in_ok-text.ensures ∙ ap (flat_map difference_line) c.as_slice.ensures.value) are
