use Rattle.dates.proofs.SpellingLaws.{Spells-same}
use Rattle.dates.proofs.spelling.no_text_spells_two_entries.Goals as goal

pub returns : goal.returns
returns c = Spells-same
