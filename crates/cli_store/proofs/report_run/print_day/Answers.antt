use Rattle.std.proofs.Common.{◌≡◌, ◌∙◌, ap, sym, subst}
use Rattle.std.specs.Io.KnownBytes.{Appends}
use Rattle.desk.specs.DayReport.{report_text}
use Rattle.deliveries.specs.Tables.{tables}
use Rattle.desk_settling.specs.Calendars.{Tells}
use Rattle.store.specs.Standing.{Content}
use Rattle.store.specs.Tables.{Tables}
use Rattle.cli_store.proofs.report_run.print_day.Goals as goal

pub returns-clause-reports : goal.returns-clause-reports
returns-clause-reports g c = λ earlier honest held.
    let reads = c.in_ok-text.ensures.reads in
    let here : (g.S.Store.standing c.args.desk.now.store).content.tables ≡ tables c.args.desk.now.building earlier =
    ap (λ (k : Content). k.tables) held in
    let kept = reads.kept honest (λ is. absurd (let e = is in cc)) in
    record {
      printed = λ imported tells.
          let answered = c.in_ok-text.ensures.text honest imported (subst (λ (t : Tables). Tells t.imported imported) (sym here) tells) in
          let text = answered ∙ ap (λ (t : Tables). report_text c.args.desk.now.building imported t.places c.args.day) here in
          subst (Appends (g.W.Write.contents c.args.out.now) (g.W.Write.contents c.print_whole.new.out))
          (c.as_str.ensures.value ∙ text) c.in_ok-print_whole.ensures;
      holds = kept ∙ held;
    }

pub returns-clause-honest : goal.returns-clause-honest
returns-clause-honest g c = c.in_ok-text.ensures.reads.goes.honest
