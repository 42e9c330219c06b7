use Rattle.building_holidays.proofs.ListLemmas.{fault_is_the_least, rows_are_of_all_records}
use Rattle.building_holidays.proofs.laws.all_rows_or_the_least_fault.Goals as goal

pub returns-clause-rows : goal.returns-clause-rows
returns-clause-rows c = rows_are_of_all_records

pub returns-clause-fault : goal.returns-clause-fault
returns-clause-fault c = fault_is_the_least
