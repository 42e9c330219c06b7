use Rattle.std.proofs.Common.{◌∙◌, ap, is_some}
use Rattle.std.proofs.lemmas.Bool.{true≢false}
use Rattle.cli_record.proofs.ComparesLemmas.{compares-as, compares-then}
use Rattle.cli_record.proofs.belonging.first_found.Goals as goal

pub returns-then-is_some : goal.returns-then-is_some
returns-then-is_some g c =
    compares-as c.in_ok-difference.ensures (λ told. record {
      told = told;
      first = λ none. absurd (true≢false (c.if-is_some.ensures ∙ ap is_some none));
    })

pub returns : goal.returns
returns g c = compares-then c.in_ok-difference.ensures c.in_ok-otherwise.ensures (λ told first. record { told = told; first = λ none. first })
