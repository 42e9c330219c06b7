use Rattle.std.proofs.Common.{◌∙◌}
use Rattle.building_hints.proofs.EntryDayLemmas.{all_tried, in_all}
use Rattle.building_hints.proofs.entry_days.holds_in_any_year.Goals as goal

pub returns : goal.returns
returns c = c.holds_in_years.ensures ∙ all_tried _ (1900, 2155) (1, 13) (1, 32) (λ y m d ok h. in_all y m d ok)
