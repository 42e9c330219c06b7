mod GrammarLemmas
mod LineEndLemmas
mod ReadingLemmas
mod UsualLemmas
mod WrittenLemmas
