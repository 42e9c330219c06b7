use Rattle.std.proofs.Common.{refl, ◌∙◌}
use Rattle.store.specs.Asked.Asked.{AnyName, LastTick, NextOf, ShownBy}
use Rattle.store.specs.Listed.{HasPanel, HasSchedule}
use Rattle.store.proofs.ReadLemmas.{kept-read}
use Rattle.desk_adopt.proofs.ReadLemmas.{each-stood, one-stood}
use Rattle.desk_adopt.proofs.SurveyLemmas.{IsSurvey-read}
use Rattle.desk_adopt.proofs.surveying.survey_tables.Goals as goal

pub returns-clause-found : goal.returns-clause-found
returns-clause-found g c honest =
    let first = g.S.Store.standing c.args.store.now in
    let named = g.S.Store.standing c.names.new.self in
    let ticked = g.S.Store.standing c.last_tick.new.self in
    let numbered = g.S.Store.standing c.read_nexts.new.store in
    let shown = g.S.Store.standing c.read_shown.new.store in
    let held = g.S.Store.standing c.holdings_of.new.store in
    let honest_held = c.in_ok-findings.ensures.reads.goes.honest honest in
    let honest_shown = c.in_ok-holdings.ensures.reads.goes.honest honest_held in
    let honest_numbered = c.in_ok-read_shown.ensures.reads.goes.honest honest_shown in
    let honest_ticked = c.in_ok-read_nexts.ensures.reads.goes.honest honest_numbered in
    let honest_named = c.in_ok-last.ensures.reads.goes.honest honest_ticked in
    let same_named = kept-read first named c.in_ok-names.ensures.reads honest_named in
    let same_ticked = kept-read named ticked c.in_ok-last.ensures.reads honest_ticked ∙ same_named in
    let same_numbered = kept-read ticked numbered c.in_ok-read_nexts.ensures.reads honest_numbered ∙ same_ticked in
    let same_shown = kept-read numbered shown c.in_ok-read_shown.ensures.reads honest_shown ∙ same_numbered in
    let same_held = kept-read shown held c.in_ok-holdings.ensures.reads honest_held ∙ same_shown in
    IsSurvey-read c.args.building.now first.content named.content shown.content held.content c.in_ok-names.names c.in_ok-last.last
    c.in_ok-holdings.holdings c.in_ok-findings.findings.items same_named same_shown same_held
    (c.in_ok-names.ensures.value honest_named) (c.in_ok-last.ensures.value honest_ticked)
    (c.in_ok-holdings.ensures.held honest_held) (c.in_ok-findings.ensures.found honest)

pub returns-clause-stood : goal.returns-clause-stood
returns-clause-stood g c honest =
    let first = g.S.Store.standing c.args.store.now in
    let ticked = g.S.Store.standing c.last_tick.new.self in
    let honest_held = c.in_ok-findings.ensures.reads.goes.honest honest in
    let honest_shown = c.in_ok-holdings.ensures.reads.goes.honest honest_held in
    let honest_numbered = c.in_ok-read_shown.ensures.reads.goes.honest honest_shown in
    let honest_ticked = c.in_ok-read_nexts.ensures.reads.goes.honest honest_numbered in
    let honest_named = c.in_ok-last.ensures.reads.goes.honest honest_ticked in
    let rows_named = c.in_ok-names.ensures.reads.rows honest_named (λ e. cc) in
    let rows_ticked = c.in_ok-last.ensures.reads.rows honest_ticked (λ e. cc) ∙ rows_named in
    let rows_numbered = c.in_ok-read_nexts.ensures.reads.rows honest_numbered (λ e. cc) ∙ rows_ticked in
    let are = c.in_ok-names.ensures.value honest_named in
    record {
      names = one-stood AnyName first.cannot_stand first.cannot_stand refl (c.in_ok-names.ensures.stood honest_named);
      last = one-stood LastTick first.cannot_stand (g.S.Store.standing c.names.new.self).cannot_stand rows_named
          ((c.in_ok-last.ensures.judges honest_ticked).stood refl);
      nexts = each-stood NextOf (HasPanel first.content.tables) c.in_ok-names.names.panels.items first.cannot_stand ticked.cannot_stand
          rows_ticked are.panels (rw c.deref.ensures.value at (c.in_ok-read_nexts.ensures.stood honest_numbered));
      shown = each-stood ShownBy (HasSchedule first.content.tables) c.in_ok-names.names.schedules.items first.cannot_stand
          (g.S.Store.standing c.read_nexts.new.store).cannot_stand rows_numbered are.schedules
          (rw c.deref-2.ensures.value at (c.in_ok-read_shown.ensures.stood honest_shown));
    }
