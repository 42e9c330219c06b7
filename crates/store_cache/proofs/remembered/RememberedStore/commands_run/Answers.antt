-- A run of numbers that are known to have no row is answered from memory.
use Rattle.std.proofs.Common.{None, sym, subst}
use Rattle.points.specs.Run.{IsRun}
use Rattle.store.specs.Asked.{IsBrokenRun, Judges}
use Rattle.store_cache.proofs.FreeLemmas.{free_judged, free_run}
use Rattle.store_cache.proofs.remembered.RememberedStore.commands_run.Goals as goal

pub returns-then-are_free-clause-value : goal.returns-then-are_free-clause-value
returns-then-are_free-clause-value g c =
    let panel = c.args.panel.now in
    subst (λ s. (g.S.Store.standing s).is_honest
    → IsRun ((g.S.Store.standing s).content.tables.row panel) c.args.from c.args.upto c.new.result.items) c.self.view_is
    (λ honest. let before = g.S.Store.standing c.self.inside.below in
    let rows = before.content.tables.row panel in
    subst (λ l. IsRun rows c.args.from c.args.upto l) (sym c.new.ensures.items)
    (free_run rows before.cannot_stand panel c.args.from c.args.upto c.requires
    (c.are_free.ensures before.content.tables before.cannot_stand (c.self.invariant.recalls honest c.if-self.false) c.if-are_free.true)))

pub returns-then-are_free-clause-judges : goal.returns-then-are_free-clause-judges
returns-then-are_free-clause-judges g c =
    let panel = c.args.panel.now in
    subst (λ s. (g.S.Store.standing s).is_honest
    → Judges (IsBrokenRun (g.S.Store.standing s).cannot_stand ((g.S.Store.standing s).content.tables.row panel) panel c.args.from c.args.upto) None)
    c.self.view_is
    (λ honest. let before = g.S.Store.standing c.self.inside.below in
    free_judged (before.content.tables.row panel) before.cannot_stand panel c.args.from c.args.upto c.requires
    (c.are_free.ensures before.content.tables before.cannot_stand (c.self.invariant.recalls honest c.if-self.false) c.if-are_free.true))
