-- The numbers that a run has shown to have no row are remembered, beside what was.
use Rattle.std.proofs.Common.{◌≡◌, ◌∙◌, None, Some, false, subst, sym}
use Rattle.std.specs.Result.{result_err}
use Rattle.points.specs.Run.{IsRun}
use Rattle.store.specs.Asked.{IsBrokenRun, Judges}
use Rattle.store.specs.Standing.{Reads}
use Rattle.store.specs.declared.fault.StoreFault.TheVariants.{Shut}
use Rattle.store.proofs.ReadLemmas.{was_open}
use Rattle.store_cache.proofs.FreeLemmas.{ahead_free}
use Rattle.store_cache.proofs.RememberLemmas.{answered_is, remembers_more}
use Rattle.store_cache.proofs.remembered.Remembered.look_ahead.Goals as goal

pub invariant_of-self : goal.invariant_of-self
invariant_of-self g c =
    let before = g.S.Store.standing c.self.inside.below in
    let after = g.S.Store.standing c.commands_run-answer.new.self in
    let answer = c.commands_run-answer.result in
    let run = c.in-Ok.rows in
    let panel = c.args.panel.now in
    let from = c.args.from in
    let far = c.saturating_add-far.result in
    let rows = before.content.tables.row panel in
    let read : Reads None before after =
    subst (λ r. Reads (result_err r) before after) c.in-Ok.is c.commands_run-answer.ensures.reads in
    let going : c.self.inside.is_shut ≡ false =
    sym c.self.invariant.shut ∙ was_open None before after read.goes (λ (e : None ≡ Some Shut). cc) in
    remembers_more answer run c.in-Ok.is before after c.self.inside.memory c.keep_free-kept.new.self c.self.inside.is_shut
    c.is_shut_after-self-inside.result c.self.invariant going c.is_shut_after-self-inside.ensures c.commands_run-answer.ensures.reads
    (λ honest recalls.
    let ran : IsRun rows from far run.items = answered_is answer run c.in-Ok.is (λ r. IsRun rows from far r.items) (c.commands_run-answer.ensures.value honest) in
    let judges : Judges (IsBrokenRun before.cannot_stand rows panel from far) None =
    subst (λ r. Judges (IsBrokenRun before.cannot_stand rows panel from far) (result_err r)) c.in-Ok.is (c.commands_run-answer.ensures.judges honest) in
    let told = c.free_before.ensures rows (subst (λ l. IsRun rows from far l) (sym c.deref.ensures.value) ran) in
    c.keep_free-kept.ensures before.content.tables before.cannot_stand recalls
    (ahead_free rows before.cannot_stand panel from far c.free_before.result judges told))
