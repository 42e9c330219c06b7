use Rattle.desk_why.proofs.LawLemmas.{author-value}
use Rattle.desk_why.proofs.laws.place_has_its_authors_value.Goals as goal

pub returns : goal.returns
returns c = author-value
