use Rattle.std.proofs.Common.{◌≡◌, ◌∙◌, sym, subst}
use Rattle.cli_record.specs.Belonging.{AlikeAtPanels}
use Rattle.cli_record.proofs.ComparesLemmas.{compares-then}
use Rattle.cli_record.proofs.SameLemmas.{value-Decides}
use Rattle.cli_record.proofs.UnlikeLemmas.{alike-none, told-of-part}
use Rattle.cli_record.proofs.belonging.first_difference.Goals as goal

pub returns-then-is_some : goal.returns-then-is_some
returns-then-is_some g c =
    let ours = (g.S.Store.standing c.args.store.now).content.tables in
    let theirs = (g.T.Store.standing c.args.other.now).content.tables in
    compares-then c.in_ok-held.ensures c.in_ok-found.ensures (λ ticks told.
    told-of-part _ _ ours theirs c.in_ok-found.found
    (λ whole. subst (AlikeAtPanels ours theirs) (sym c.panels.ensures) whole.panels) (sym c.if-is_some.ensures) told)

pub returns-then-is_same_value : goal.returns-then-is_same_value
returns-then-is_same_value g c =
    let ours = (g.S.Store.standing c.args.store.now).content.tables in
    let theirs = (g.T.Store.standing c.args.other.now).content.tables in
    let same = (value-Decides _ _).0 (sym c.if-is_same_value.ensures) in
    compares-then c.in_ok-held.ensures c.in_ok-found.ensures (λ ticks told. record {
      panels = subst (AlikeAtPanels ours theirs) c.panels.ensures
          (alike-none _ ours theirs c.in_ok-found.found (sym c.if-is_some.ensures) told);
      last_tick = sym ticks.0 ∙ same ∙ ticks.1;
    })
