use Rattle.dates.proofs.SpellingLaws.{reading-Spells}
use Rattle.dates.proofs.spelling.reading_is_spelling.Goals as goal

pub returns : goal.returns
returns c = reading-Spells
