use Rattle.std.proofs.Common.{◌≡◌, ◌∙◌, ap, subst, sym, ℤ, Option}
use Rattle.std.specs.Bool.{IsTrue}
use Rattle.desk_adopt.specs.Adopted.{IsAdopted}
use Rattle.desk.specs.Opening.{is_ticked}
use Rattle.store.proofs.ReadLemmas.{kept-read}
use Rattle.store.specs.Standing.{Content}
use Rattle.desk_adopt.specs.Surveyed.{IsSurvey}
use Rattle.cli_check.proofs.adoption_run.take_along.Goals as goal

pub returns-clause-taken : goal.returns-clause-taken
returns-clause-taken g c honest_from honest_into empty =
    let building = c.args.building.now in
    let renamings = c.args.renamings.now in
    let first = g.S.Store.standing c.args.from.now in
    let looked = g.S.Store.standing c.look_at.new.store in
    let made = g.T.Store.standing c.adopt.new.into in
    let surveyed = g.T.Store.standing c.survey_tables.new.store in
    let notes = c.in_ok-looked.looked.notes in
    let survey = c.in-Ok-survey_tables.survey in
    let honest_looked = c.in-Ok.ensures.reads.goes.honest honest_from in
    let honest_made = c.in-Ok-survey_tables.ensures.reads.goes.honest honest_into in
    let same : looked.content ≡ first.content = kept-read first looked c.in_ok-looked.ensures.reads honest_looked in
    let kept : surveyed.content ≡ made.content = kept-read made surveyed c.in-Ok-survey_tables.ensures.reads honest_into in
    let taken = c.in-Ok.ensures.adopted honest_from honest_made empty in
    let adopted : IsAdopted building renamings first.content.tables surveyed.content.tables =
    subst (λ (content : Content). IsAdopted building renamings first.content.tables content.tables) (sym kept)
    (subst (λ (content : Content). IsAdopted building renamings content.tables made.content.tables) same taken.1) in
    let ticked : IsTrue (is_ticked building first.content.tables.last_tick) =
    subst (λ (last : Option ℤ). IsTrue (is_ticked building last)) (c.in_ok-looked.ensures.last honest_looked) c.in_ok-refuse_timeless.ensures in
    record {
      is_sound = ap (λ (content : Content). content.is_sound) kept ∙ taken.0;
      adopted = adopted;
      suits = c.adopted_tables_suit.ensures building renamings first.content.tables surveyed.content.tables adopted ticked;
      renamed = notes.renamed.items;
      left = notes.left.items;
      unused = notes.unused.items;
      noted = c.in_ok-looked.ensures.noted honest_looked;
      findings = survey.findings.items;
      holdings = survey.holdings;
      survey = subst (λ (content : Content). IsSurvey building content.tables survey.findings.items survey.holdings) (sym kept)
          (c.in-Ok-survey_tables.ensures.found honest_into);
      text_is = c.in_ok-adoption_text.ensures;
    }
