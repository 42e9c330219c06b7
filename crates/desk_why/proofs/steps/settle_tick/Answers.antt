use Rattle.std.proofs.Common.{◌≡◌, ◌∙◌, [], ℤ, true, OnOk, Some, sym, subst, to_z, of_z, w64, rules}
use Rattle.std.proofs.lemmas.Result.{on_ok_weaker}
use Rattle.deliveries.specs.Delivered.{Holds}
use Rattle.deliveries.specs.Events.{is_later, last_tick_of, machine}
use Rattle.deliveries.specs.Machine.{local_of}
use Rattle.deliveries.proofs.ClockLemmas.{machine-last_tick}
use Rattle.desk_clock.proofs.ClockedLemmas.{Tells-held}
use Rattle.desk_settling.specs.Calendars.{with_items}
use Rattle.store_memory.specs.Memory.{standing_of}
use Rattle.desk_why.specs.declared.author.Settling.TheVariants as at
use Rattle.desk_why.specs.AuthorsTable.{held_in}
use Rattle.desk_why.specs.Settling.{held_at}
use Rattle.desk_why.specs.Steps.{Becomes}
use Rattle.desk_why.proofs.SettleLemmas.{held-unticked, last-is, ticked-along}
use Rattle.desk_why.proofs.steps.settle_tick.Goals as goal

pub returns-then-not-is_later-clause-along : goal.returns-then-not-is_later-clause-along
returns-then-not-is_later-clause-along c = λ E held.
    let b = c.args.building.now in
    let last : c.in_ok-last.last ≡ last_tick_of b E =
    c.in_ok-last.ensures.value tt ∙ (last-is b E (standing_of c.args.store.now) held ∙ machine-last_tick b E) in
    let whole : to_z w64 (of_z w64 c.args.at) ≡ c.args.at = search rules in
    λ point priority. held-unticked b E c.args.at point priority (held_in c.args.authors.now point priority)
    ((λ i. is_later (sym last i) (sym whole i)) ∙ (sym c.is_later.ensures ∙ c.if-not-is_later.true))

pub returns-clause-along : goal.returns-clause-along
returns-clause-along c = λ E held.
    let b = c.args.building.now in
    let old = c.args.authors.now in
    let new = c.settle_at.new.authors in
    let read = standing_of c.last_tick.new.self in
    let last : c.in_ok-last.last ≡ last_tick_of b E =
    c.in_ok-last.ensures.value tt ∙ (last-is b E (standing_of c.args.store.now) held ∙ machine-last_tick b E) in
    let whole : to_z w64 (of_z w64 c.args.at) ≡ c.args.at = search rules in
    let later : is_later (last_tick_of b E) c.args.at ≡ true =
    (λ i. is_later (sym last i) (sym whole i)) ∙ (sym c.is_later.ensures ∙ c.if-not-is_later.false) in
    let first : Holds b E read = c.in_ok-last.ensures.reads.kept tt (λ e. cc) ∙ held in
    on_ok_weaker c.settle_at.result (ticked-along b E read first c.args.at old new later)
    (subst (λ (z : ℤ). OnOk c.settle_at.result (Becomes (held_at b (with_items (machine b E).imported []) read.content.tables.shown
    (at.Tick z) (local_of b (Some z))) old new)) whole
    (c.settle_at.ensures.settled (machine b E).imported (Tells-held b E read first)))
