use Rattle.std.proofs.Common.{◌≡◌, ◌<◌, Some, sym, subst, ap₂, ◌∙◌, arith}
use Rattle.std.specs.List.{All}
use Rattle.std.proofs.lemmas.List.Elements.{All-filter}
use Rattle.window.specs.declared.numbered_content.NumberedContent.{NumberedContent}
use Rattle.panel.specs.Means.{ended_by}
use Rattle.panel.specs.Run.{entry_of, in_flight}
use Rattle.panel.proofs.StepLemmas.{skip_after-same}
use Rattle.panel.proofs.UpheldLemmas.{true-if-found}
use Rattle.panel.proofs.panel_end.PanelEnd.hear.Goals as goal

pub invariant_of-self-2 : goal.invariant_of-self-2
invariant_of-self-2 c =
    let s = c.args.self.now in
    record {
      at_most_64 = omega (arith, c.remove_entry.ensures.len, s.at_most_64);
      in_range = s.in_range;
      numbers = subst (λ entries. All (λ (entry : NumberedContent). entry.number < s.next) entries) (sym c.remove_entry.ensures.others)
          (All-filter _ (λ (entry : NumberedContent). entry.number < s.next) s.in_flight.items s.numbers);
      skip_in_range = λ x is. s.skip_in_range x (skip_after-same c.args.reply.now s.skip x (sym c.skip_after-self.ensures ∙ is));
    }

pub returns-clause-means : goal.returns-clause-means
returns-clause-means c = λ run ran.
    let given = c.args.reply.now in
    let ends : ended_by given ≡ Some c.in_ok-number.number = sym c.ended_by.ensures ∙ c.in_ok-number.was in
    let entries : in_flight run ≡ c.deref.result.now = sym (c.deref.ensures.value ∙ ran.in_flight) in
    true-if-found c.args.self.now.name run given c.find_entry-ended.result ran.from_1
    (ap₂ entry_of ends entries ∙ sym c.find_entry-ended.ensures)
