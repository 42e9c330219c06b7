use Rattle.std.proofs.Common.{◌≡◌, ◌∙◌, ℕ, Option, option_copied, sym, subst, rules}
use Rattle.store_memory.specs.Memory.{standing_of}
use Rattle.deliveries.specs.SettlingLaws.{is_due_at, targets}
use Rattle.desk_settling.specs.Settled.{is_due}
use Rattle.points.specs.Texts.{Text}
use Rattle.desk_why.specs.declared.author.Held.{Held}
use Rattle.desk_why.specs.Settling.{held_by_schedule}
use Rattle.desk_why.specs.Steps.{Becomes, put_where, today_of}
use Rattle.desk_why.proofs.TurnLemmas.{due-read, put-done, put-not}
use Rattle.desk_why.proofs.settling.put_due.Goals as goal

pub returns-in_ok-put_at_targets-clause-put : goal.returns-in_ok-put_at_targets-clause-put
returns-in_ok-put_at_targets-clause-put c =
    let now = today_of c.args.today.now in
    let shown = (standing_of c.args.store.now).content.tables.shown in
    let s = c.args.schedule.now in
    let read = c.in_ok-shown.shown in
    let here = λ (point : Text) (priority : ℕ). targets point priority s in
    let put = held_by_schedule now c.args.today.now.settling s in
    let held : option_copied c.as_ref.result ≡ put = search rules in
    put-done (is_due now (λ name. read) s) (λ point priority. is_due_at now shown point priority s) here put
    (due-read now shown s read (c.in_ok-shown.ensures.value tt)) c.args.authors.now c.put_at_targets.new.self
    (sym c.is_due.ensures ∙ c.if-is_due.true)
    (subst (λ (o : Option Held). Becomes (put_where here o) c.args.authors.now c.put_at_targets.new.self) held c.in_ok-put_at_targets.ensures)

pub returns-else-is_due-clause-put : goal.returns-else-is_due-clause-put
returns-else-is_due-clause-put c =
    let now = today_of c.args.today.now in
    let shown = (standing_of c.args.store.now).content.tables.shown in
    let s = c.args.schedule.now in
    let read = c.in_ok-shown.shown in
    put-not (is_due now (λ name. read) s) (λ point priority. is_due_at now shown point priority s)
    (λ point priority. targets point priority s) (held_by_schedule now c.args.today.now.settling s)
    (due-read now shown s read (c.in_ok-shown.ensures.value tt)) c.args.authors.now (sym c.is_due.ensures ∙ c.if-is_due.false)
