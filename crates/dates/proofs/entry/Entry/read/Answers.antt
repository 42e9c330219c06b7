-- What reads as an entry is its spelling, and the spelling of an entry reads as it.
use Rattle.dates.proofs.SpellingLaws.{read-Spells}
use Rattle.dates.proofs.entry.Entry.read.Goals as goal

pub returns-clause-spells : goal.returns-clause-spells
returns-clause-spells c = λ e. read-Spells _ _ e c.read_form.ensures
