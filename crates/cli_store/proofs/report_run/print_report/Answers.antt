use Rattle.std.proofs.Common.{◌≡◌, sym, subst}
use Rattle.building.specs.Building.{Building}
use Rattle.deliveries.specs.Delivered.{Holds}
use Rattle.cli_store.specs.Reported.{Reports}
use Rattle.cli_store.proofs.report_run.print_report.Goals as goal

pub returns-in-Ok : goal.returns-in-Ok
returns-in-Ok g c = λ earlier opens honest.
    let same : c.in_ok-desk.desk.building ≡ c.args.building = c.in_ok-desk.ensures.building in
    let honest_now = subst (λ s. (g.S.Store.standing s).is_honest) c.into_store-store.ensures honest in
    let held = c.in_ok-desk.ensures.holds earlier opens (c.in-Ok.ensures.honest honest_now) in
    let answered = c.in-Ok.ensures.reports earlier honest_now
    (subst (λ (b : Building). Holds b earlier (g.S.Store.standing c.in_ok-desk.desk.store)) (sym same) held) in
    subst (λ s. Reports c.args.building earlier c.args.day (g.S.Store.standing s) (g.W.Write.contents c.args.out.now)
    (g.W.Write.contents c.print_day-answered.new.out))
    (sym c.into_store-store.ensures)
    (subst (λ (b : Building). Reports b earlier c.args.day (g.S.Store.standing c.print_day-answered.new.desk.store)
    (g.W.Write.contents c.args.out.now) (g.W.Write.contents c.print_day-answered.new.out)) same answered)
