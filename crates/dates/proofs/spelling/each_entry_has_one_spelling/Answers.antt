use Rattle.dates.proofs.SpellingLaws.{one_spelling}
use Rattle.dates.proofs.spelling.each_entry_has_one_spelling.Goals as goal

pub returns : goal.returns
returns c = one_spelling
