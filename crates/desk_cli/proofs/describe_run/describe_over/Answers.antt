use Rattle.std.proofs.Common.{◌≡◌, ◌∙◌, ℕ, List, Result, Ok, Err, string_bytes, subst, take}
use Rattle.std.specs.Prelude.{OnOk}
use Rattle.std.specs.Io.KnownBytes.{Appends}
use Rattle.desk_cli.specs.Describe.{Tells}
use Rattle.cli_common.proofs.ReadingLemmas.{whole_taken}
use Rattle.desk_cli.proofs.describe_run.describe_over.Goals as goal

on_ok : {T E : Type 0} (r : Result T E) (P Q : Type 0) → (P → Q) → OnOk r P → OnOk r Q
on_ok {T} {E} (Ok x) P Q f p = f p
on_ok {T} {E} (Err e) P Q f p = tt

-- what holds of the bytes that were read holds of the file
of_whole : (bytes line : List ℕ) → Tells (take 1_048_577 bytes) line → Tells bytes line
of_whole bytes line parsed = subst (λ b. Tells b line) (whole_taken bytes parsed.contents parsed.contents_are) parsed

pub returns : goal.returns
returns g c = on_ok c.print_whole.result _ _ (λ printed bytes known.
    let line = string_bytes c.in_ok-line.line in
    let start : c.as_slice.result.now ≡ take 1_048_577 bytes = c.as_slice.ensures.value ∙ c.in_ok-bytes.ensures bytes known in
    record {
      line = line;
      is_reported = of_whole bytes line (subst (λ b. Tells b line) start c.in_ok-line.ensures);
      printed =
          subst (Appends (g.W.Write.contents c.args.out.now) (g.W.Write.contents c.print_whole.new.out)) c.as_str.ensures.value printed;
    }) c.print_whole.ensures
