use Rattle.std.proofs.Common.{List, length, string_bytes, subst}
use Rattle.deliveries.specs.declared.delivery.Delivery.{Delivery}
use Rattle.store.specs.Tables.{Tables}
use Rattle.cli_record.specs.RecordRun.{IsCompared, IsVerdict}
use Rattle.cli_record.proofs.record_run.compare_over.Goals as goal

pub returns : goal.returns
returns g c = λ file_bytes list_bytes file list.
    let b = c.in_ok-building.building in
    let deliveries = c.in_ok-deliveries.deliveries.items in
    let status = c.in_ok-status.status in
    let text = string_bytes c.in_ok-status.text in
    let same = c.as_slice.ensures.value in
    record {
      building = b;
      building_is = c.in_ok-building.ensures file_bytes file;
      deliveries = deliveries;
      lists = c.in_ok-deliveries.ensures list_bytes list;
      verdict = subst (λ (ds : List Delivery). IsVerdict (length ds) text) same c.in_ok-status.ensures.verdict;
      compared = λ tables finds honest earlier begins.
          let held = c.in_ok-building-2.ensures.found tables finds (c.in_ok-status.ensures.honest honest) in
          subst (λ (ts : Tables). IsCompared b earlier deliveries ts status text) held
          (subst (λ (ds : List Delivery). IsCompared b earlier ds (g.S.Store.standing c.in_ok-building-2.store).content.tables status text) same
          ((rw c.in_ok-building-2.ensures.building at c.in_ok-status.ensures.compared) earlier begins honest));
    }
