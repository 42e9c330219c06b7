use Rattle.std.proofs.Common.{◌≡◌, ◌∙◌, ◌++◌, Bool, List, sym, ap}
use Rattle.desk_clock.proofs.ClockedLemmas.{Tells-held}
use Rattle.deliveries.specs.declared.delivery.Delivery.{Delivery}
use Rattle.deliveries.specs.declared.delivery.Delivery.TheVariants.{Import}
use Rattle.deliveries.specs.Events.{machine}
use Rattle.deliveries.specs.Reply.{reply}
use Rattle.store_memory.specs.Memory.{standing_of}
use Rattle.sched.specs.declared.calendar.CalendarEntry.{CalendarEntry}
use Rattle.desk_straighten.specs.Steps.{import_if, is_imported}
use Rattle.desk_straighten.proofs.StoreLemmas.{straightened_by-import}
use Rattle.desk_straighten.proofs.imports.straighten_import.Goals as goal

pub returns-clause-straightens : goal.returns-clause-straightens
returns-clause-straightens c = λ E held.
    let b = c.args.building.now in
    let rows = c.args.rows.now in
    let was = c.args.straightened.now.items in
    let first = c.in_ok-_last.ensures.reads.kept tt (λ e. cc) in
    let second = c.in_ok-added.ensures.reads.kept tt (λ e. cc) in
    let kept = c.in_ok-added.ensures.rows tt (machine b E).imported (Tells-held b E (standing_of c.last_tick.new.self) (first ∙ held)) in
    let said = (c.in_ok-reply.ensures.delivers E tt (second ∙ (first ∙ held))).0 in
    c.in_ok-push_import.ensures
    ∙ (ap (λ (t : Bool). was ++ import_if t c.in_ok-added.added.items) (c.is_imported.ensures ∙ ap is_imported said)
    ∙ (ap (λ (found : List CalendarEntry). was ++ import_if (is_imported (reply b E (Import rows))) found) kept
    ∙ ap (λ (xs : List Delivery). was ++ xs) (sym (straightened_by-import b E rows))))
