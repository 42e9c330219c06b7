use Rattle.points.proofs.PlacesLemmas.{from_sorted-none}
use Rattle.points.proofs.priority_array.PriorityArray.new.Goals as goal

pub returns : goal.returns
returns c = from_sorted-none
