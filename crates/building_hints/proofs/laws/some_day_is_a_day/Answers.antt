use Rattle.building_hints.proofs.EntryDayLemmas.{some_day-from, some_day-to}
use Rattle.building_hints.proofs.laws.some_day_is_a_day.Goals as goal

pub returns : goal.returns
returns c = λ entry. (some_day-to entry, λ held. some_day-from entry held.0 held.1 held.2)
