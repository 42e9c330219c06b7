use Rattle.std.proofs.Common.{◌∙◌, List, Option, Some, sym, subst, ◌∷◌, [], ◌++◌}
use Rattle.desk_overrides.specs.declared.overriding.Override.{Override}
use Rattle.desk_overrides.specs.Watched.{AreKnown, standing_from}
use Rattle.desk_overrides.proofs.WatchLemmas.{noted-other, noted-same}
use Rattle.desk_overrides.proofs.watch.gone_on.Goals as goal

pub returns-then-is_given : goal.returns-then-is_given
returns-then-is_given c = λ seen known.
    noted-same c.args.ended.items c.args.stands seen c.args.look known (sym c.is_given.ensures ∙ c.if-is_given.true)

pub returns : goal.returns
returns c = λ seen known.
    let noted = noted-other c.args.ended.items c.args.stands seen c.args.look known (sym c.is_given.ensures ∙ c.if-is_given.false) in
    subst (λ (standing : Option _). AreKnown c.in_ok-ended.ended.items standing (seen ++ c.args.look ∷ [])) (sym c.begun.ensures)
    (subst (λ (ended : List Override). AreKnown ended (standing_from c.args.look) (seen ++ c.args.look ∷ []))
    (sym (rw c.ended.ensures at c.in_ok-ended.ensures)) noted)
