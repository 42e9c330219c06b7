use Rattle.std.proofs.Common.{◌≡◌, ◌∙◌, ◌∷◌, [], ◌++◌, List, Option, ap, length, rules, sym, subst}
use Rattle.std.proofs.lemmas.Iterator.Adapters.{YieldsList-from_vec}
use Rattle.std.proofs.lemmas.Iterator.Consumers.{YieldsList-turn}
use Rattle.std.proofs.lemmas.List.Elements.{All-cons, All-nil}
use Rattle.std.specs.List.{All}
use Rattle.std.specs.Vec.Iter.{into_iter_items, into_iter_len}
use Rattle.desk_why.specs.AuthorsTable.{held_in}
use Rattle.points.specs.Texts.{Text}
use Rattle.desk_overrides.specs.declared.overriding.Given.{Given}
use Rattle.desk_overrides.specs.declared.overriding.Look.{Look}
use Rattle.desk_overrides.specs.declared.watch.Watch.{Watch}
use Rattle.desk_overrides.specs.Watched.{Knows, given_from}
use Rattle.desk_overrides.proofs.WatchingLemmas.{all-more, mapped-more}
use Rattle.desk_overrides.proofs.watching.looked_at_all.Goals as goal

pub loop-watch-preserved : goal.loop-watch-preserved
loop-watch-preserved c = record {
  points = mapped-more (λ (watch : Watch). watch.point) c.loop-watch.after.items c.push.new.self.items c.loop-watch.yielded
      c.in_ok-watch.watch c.in-Some.watch c.in_ok-push.ensures.items c.in_ok-watch.ensures.point c.loop-watch.invariant.points;
  known = λ seen known.
      let items : into_iter_items c.into_iter-watch-iterator.result ≡ c.args.watches.items = search rules in
      let count : into_iter_len c.into_iter-watch-iterator.result ≡ length c.args.watches.items = search rules in
      let turn = YieldsList-turn (YieldsList-from_vec c.args.watches.items items count) c.loop-watch.yielded c.loop-watch.watch-iterator c.loop-watch.yielded_by _ c.next.new.self
      c.in-Some.watch c.in-Some.is c.next.ensures.steps in
      let before : Knows c.in-Some.watch (seen c.in-Some.watch.point) =
      subst (λ (watch : Watch). Knows watch (seen watch.point)) (sym turn.1) (known _ c.in-Some.watch turn.0) in
      let seen_now : Text → Look = λ point. record { given = given_from (held_in c.args.authors.now point); last = c.args.last } in
      let same = c.in_ok-watch.ensures.point in
      let now : Knows c.in_ok-watch.watch (seen c.in_ok-watch.watch.point ++ seen_now c.in_ok-watch.watch.point ∷ []) =
      subst (λ (point : Text). Knows c.in_ok-watch.watch (seen point ++ seen_now point ∷ [])) (sym same)
      (subst (λ (given : Option Given). Knows c.in_ok-watch.watch (seen c.in-Some.watch.point ++ record { given = given; last = c.args.last } ∷ []))
      (c.given_at-given.ensures ∙ ap (λ (point : Text). given_from (held_in c.args.authors.now point)) c.point.ensures)
      (c.in_ok-watch.ensures.knows (seen c.in-Some.watch.point) before)) in
      all-more (λ (watch : Watch). Knows watch (seen watch.point ++ seen_now watch.point ∷ []))
      c.loop-watch.after.items c.push.new.self.items c.in_ok-watch.watch c.in_ok-push.ensures.items
      (All-cons (λ (watch : Watch). Knows watch (seen watch.point ++ seen_now watch.point ∷ [])) c.in_ok-watch.watch [] now
      (All-nil (λ (watch : Watch). Knows watch (seen watch.point ++ seen_now watch.point ∷ []))))
      (c.loop-watch.invariant.known seen known);
}
