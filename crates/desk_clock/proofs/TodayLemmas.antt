-- The calendars that are kept of a day hold on it as long as nothing is imported.
use Rattle.std.proofs.Common.{◌≡◌, Bool, sym, subst}
use Rattle.building.specs.Building.{Building}
use Rattle.desk_settling.specs.Kept.{AreToday}
use Rattle.desk_settling.specs.declared.kept.Kept.{Kept}
use Rattle.points.specs.Texts.{Text}

pub today_of : (b : Building) (old new : Text → Text → Bool) (kept : Kept) → new ≡ old → AreToday b old kept → AreToday b new kept
today_of b old new kept same today = subst (λ table. AreToday b table kept) (sym same) today
