use Rattle.std.proofs.Common.{Option, sym, subst, ◌∷◌, [], ◌++◌}
use Rattle.std.specs.Prelude.{IfOk, List}
use Rattle.desk_overrides.specs.declared.overriding.Look.{Look}
use Rattle.desk_overrides.specs.Watched.{AreKnown}
use Rattle.desk_overrides.proofs.WatchLemmas.{noted-first}
use Rattle.desk_overrides.proofs.watch.after_look.Goals as goal

pub returns-in-Some : goal.returns-in-Some
returns-in-Some c = λ seen known. c.gone_on.ensures seen
    (subst (λ (standing : Option _). AreKnown c.args.ended.items standing seen) c.in-Some.is known)

pub returns-in-None : goal.returns-in-None
returns-in-None c = λ seen known.
    subst (λ (standing : Option _). AreKnown c.args.ended.items standing (seen ++ c.args.look ∷ [])) (sym c.begun.ensures)
    (noted-first c.args.ended.items seen c.args.look
    (subst (λ (standing : Option _). AreKnown c.args.ended.items standing seen) c.in-None.is known))
