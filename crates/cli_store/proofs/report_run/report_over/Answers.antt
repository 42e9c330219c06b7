use Rattle.cli_store.proofs.AnsweredLemmas.{if_ok}
use Rattle.cli_store.proofs.report_run.report_over.Goals as goal

pub returns : goal.returns
returns g c = if_ok c.print_report.result (λ left reports file_bytes file. record {
  building = c.in_ok-building.building;
  building_is = c.in_ok-building.ensures file_bytes file;
  day = c.in_ok-day.day;
  day_is = c.in_ok-day.ensures.day;
  reports = reports;
}) c.print_report.ensures
