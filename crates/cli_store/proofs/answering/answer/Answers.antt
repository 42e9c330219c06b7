use Rattle.std.proofs.Common.{◌≡◌, ◌++◌, ◌∷◌, [], ◌∙◌, ap, sym, subst}
use Rattle.std.specs.Io.KnownBytes.{Appends}
use Rattle.std.specs.Prelude.{IfOk}
use Rattle.std.proofs.KnownBytes.{Keeps-refl}
use Rattle.deliveries.specs.Reply.{reply}
use Rattle.delivery_json.specs.ReplyText.{reply_line}
use Rattle.building.specs.Building.{Building}
use Rattle.desk_record.specs.Recorded.{IsBehind, listed}
use Rattle.cli_store.specs.Recorded.{Records}
use Rattle.deliveries.specs.Delivered.{Holds}
use Rattle.cli_store.specs.declared.ended.Stopped.{Stopped}
use Rattle.cli_store.proofs.GuardedLemmas.{began-own, began-telling, none-left, only-read, passed-on}
use Rattle.cli_store.proofs.answering.answer.Goals as goal

pub returns-in-Ok-clause-answered : goal.returns-in-Ok-clause-answered
returns-in-Ok-clause-answered g c = λ unrecorded file_bytes file.
    let building = c.in_ok-building.building in
    let delivery = c.in_ok-delivery.delivery in
    let same : c.in_ok-desk.desk.building ≡ building = c.in_ok-desk.ensures.building in
    record {
      building = building;
      building_is = c.in_ok-building.ensures file_bytes file;
      delivery = delivery;
      asked = c.in_ok-delivery.ensures;
      answers = λ earlier opens honest.
          let honest_now = subst (λ s. (g.S.Store.standing s).is_honest) c.into_store-store.ensures honest in
          let held = c.in_ok-desk.ensures.holds earlier opens (c.in-Ok.ensures.honest honest_now) in
          let answered = c.in-Ok.ensures.answers unrecorded earlier honest_now
          (subst (λ (b : Building). Holds b earlier (g.S.Store.standing c.in_ok-desk.desk.store)) (sym same) held) in
          record {
            printed =
                subst (λ (b : Building). Appends (g.W.Write.contents c.args.out.now) (g.W.Write.contents c.deliver-answered.new.out)
                (reply_line (reply b earlier delivery)))
                same answered.printed;
            holds = subst (λ (b : Building). Holds b (earlier ++ delivery ∷ []) (g.S.Store.standing c.into_store-store.result)) same
                (subst (λ s. Holds c.in_ok-desk.desk.building (earlier ++ delivery ∷ []) (g.S.Store.standing s))
                (sym c.into_store-store.ensures) answered.holds);
          };
    }

pub returns-in-Ok-clause-recorded : goal.returns-in-Ok-clause-recorded
returns-in-Ok-clause-recorded g c = λ kept file_bytes file.
    let building = c.in_ok-building.building in
    let delivery = c.in_ok-delivery.delivery in
    let same : c.in_ok-desk.desk.building ≡ building = c.in_ok-desk.ensures.building in
    let (disk, is, records) = c.in-Ok.ensures.recorded kept in (
      disk,
      is,
      record {
        building = building;
        building_is = c.in_ok-building.ensures file_bytes file;
        delivery = delivery;
        asked = c.in_ok-delivery.ensures;
        records = λ earlier deliveries opens_record opens honest clean.
            let honest_now = subst (λ s. (g.S.Store.standing s).is_honest) c.into_store-store.ensures honest in
            let behind = c.in_ok-desk.ensures.behind earlier deliveries opens (c.in-Ok.ensures.honest honest_now) in
            let answered = records earlier deliveries
            (λ opened may. subst (λ (b : Building). IfOk opened (λ it. listed b (g.D.Disk.seen it) ≡ deliveries)) (sym same) (opens_record opened may))
            (subst (λ (b : Building). IsBehind b earlier deliveries (g.S.Store.standing c.in_ok-desk.desk.store)) (sym same) behind) honest_now clean in
            subst (λ s. Records building earlier deliveries delivery (g.S.Store.standing s) (g.D.Disk.seen disk) (g.D.Disk.may_leave disk)
            (g.W.Write.contents c.args.out.now) (g.W.Write.contents c.deliver-answered.new.out))
            (sym c.into_store-store.ensures)
            (subst (λ (b : Building). Records b earlier deliveries delivery (g.S.Store.standing c.deliver-answered.new.desk.store)
            (g.D.Disk.seen disk) (g.D.Disk.may_leave disk) (g.W.Write.contents c.args.out.now) (g.W.Write.contents c.deliver-answered.new.out))
            same answered);
      },
    )

pub returns-in-Ok-clause-guarded : goal.returns-in-Ok-clause-guarded
returns-in-Ok-clause-guarded g c = λ kept file_bytes list_bytes file list.
    let (otherwise, told, beside) = c.in_ok-desk.ensures.opened kept in
    began-own g.S.Store.standing _ _ c.in_ok-building.building _ _ file_bytes list_bytes c.in_ok-desk.desk.store c.into_store-store.result
    otherwise beside list (c.in_ok-building.ensures file_bytes file)

pub returns-clause-stopped : goal.returns-clause-stopped
returns-clause-stopped g c = λ kept file_bytes list_bytes file list left is.
    let (otherwise, told, beside) = c.in_ok-desk.ensures.opened kept in
    began-own g.S.Store.standing _ _ c.in_ok-building.building _ _ file_bytes list_bytes c.in_ok-desk.desk.store left
    otherwise beside list (c.in_ok-building.ensures file_bytes file)

pub returns-in_err-desk-clause-stopped : goal.returns-in_err-desk-clause-stopped
returns-in_err-desk-clause-stopped g c = λ kept file_bytes list_bytes file list.
    passed-on c.from_residual-in_err-desk.result c.from_residual-in_err-desk.ensures.1 (λ end same left is.
    only-read g.S.Store.standing _ _ c.in_ok-building.building _ _ file_bytes list_bytes left
    (c.in_err-desk.ensures.refused kept left (sym (ap (λ (e : Stopped _). e.store) same) ∙ is)) list (c.in_ok-building.ensures file_bytes file))

pub returns-in_err-delivery-clause-quiet : goal.returns-in_err-delivery-clause-quiet
returns-in_err-delivery-clause-quiet g c = λ unrecorded. Keeps-refl (g.F.Write.contents c.args.fault.now)

pub returns-in_err-delivery-clause-stopped : goal.returns-in_err-delivery-clause-stopped
returns-in_err-delivery-clause-stopped g c = λ kept file_bytes list_bytes file list.
    passed-on c.from_residual-in_err-delivery.result c.from_residual-in_err-delivery.ensures.1 (λ end none left is.
    absurd (none-left end.store left none is))

pub returns-in-Ok-clause-told : goal.returns-in-Ok-clause-told
returns-in-Ok-clause-told g c = λ kept file_bytes list_bytes file list.
    let (otherwise, told, beside) = c.in_ok-desk.ensures.opened kept in
    began-telling g.S.Store.standing _ _ c.in_ok-building.building _ _ file_bytes list_bytes c.in_ok-desk.desk.store _ _ otherwise told beside list
    (c.in_ok-building.ensures file_bytes file)
