use Rattle.std.proofs.Common.{◌∙◌, ◌++◌, ◌∷◌, [], Option, ap, subst}
use Rattle.std.proofs.lemmas.Result.{IfOk-weaker}
use Rattle.desk_overrides.specs.Watched.{AreKnown}
use Rattle.desk_overrides.proofs.WatchLemmas.{known-none, known-standing}
use Rattle.desk_overrides.proofs.watch.Watch.overrides.Goals as goal

pub returns-in-Some : goal.returns-in-Some
returns-in-Some c = λ seen knows. IfOk-weaker c.with_one.result _ _ (λ all is. is
    ∙ (ap (λ one. c.args.self.ended.items ++ one ∷ []) c.unended.ensures
    ∙ known-standing c.args.self.ended.items c.in-Some.stands seen
    (subst (λ (standing : Option _). AreKnown c.args.self.ended.items standing seen) c.in-Some.is knows))) c.with_one.ensures

pub returns-in-None : goal.returns-in-None
returns-in-None c = λ seen knows. known-none c.args.self.ended.items seen
    (subst (λ (standing : Option _). AreKnown c.args.self.ended.items standing seen) c.in-None.is knows)
