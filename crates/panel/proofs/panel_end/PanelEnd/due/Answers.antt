use Rattle.std.proofs.Common.{◌≡◌, List, arith, sym, subst}
use Rattle.std.proofs.lemmas.Grind.{common_steps}
use Rattle.deliveries.specs.declared.delivery.Delivery.{Delivery}
use Rattle.panel.specs.Life.{WereSent}
use Rattle.panel.specs.Due.{due}
use Rattle.panel.specs.Run.{life}
use Rattle.panel.proofs.SentLemmas.{due-sent}
use Rattle.panel.proofs.panel_end.PanelEnd.due.Goals as goal

pub returns-in-Some-clause-sent : goal.returns-in-Some-clause-sent
returns-in-Some-clause-sent c = λ run ran.
    let is : c.push.new.self.items ≡ due c.args.self.now.name run = grind (arith, common_steps) in
    subst (λ (named : List Delivery). WereSent (life run) c.args.self.now.name named) (sym is) (due-sent c.args.self.now.name run)

pub returns-clause-sent : goal.returns-clause-sent
returns-clause-sent c = λ run ran.
    let is : c.push_commands.new.named.items ≡ due c.args.self.now.name run = grind (arith, common_steps) in
    subst (λ (named : List Delivery). WereSent (life run) c.args.self.now.name named) (sym is) (due-sent c.args.self.now.name run)
