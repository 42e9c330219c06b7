use Rattle.std.proofs.Common.{◌∙◌, ap, map, is_some, subst}
use Rattle.std.specs.Bool.{IsTrue}
use Rattle.std.proofs.lemmas.Bool.{false≢true}
use Rattle.std.proofs.lemmas.Result.{IfOk-weaker}
use Rattle.dates.specs.Entry.{spelling}
use Rattle.store_memory.specs.Held.{imported_of, text_slot}
use Rattle.store.specs.Listed.{AreTexts}
use Rattle.store_memory.specs.Slots.{flatten, has_text}
use Rattle.store_memory.proofs.TextLemmas.{AreTexts-none}
use Rattle.store_memory.proofs.calendars.Calendars.entries.Goals as goal

pub returns-in-Some : goal.returns-in-Some
returns-in-Some c =
    IfOk-weaker c.list.result (λ list. AreTexts (λ text. IsTrue (has_text c.in-Some.table.now.entries text)) (map spelling list.items))
    (λ list. AreTexts (λ text. IsTrue (imported_of c.args.self.now c.args.calendar.now text)) (map spelling list.items))
    (λ list are. subst (λ o. AreTexts (λ text. IsTrue (is_some (flatten (text_slot o text)))) (map spelling list.items))
    c.in-Some.ensures.value are)
    c.list.ensures

pub returns-in-None : goal.returns-in-None
returns-in-None c =
    rw c.new.ensures.items (AreTexts-none (λ text. IsTrue (imported_of c.args.self.now c.args.calendar.now text))
    (λ text is. false≢true (ap (λ o. is_some (flatten (text_slot o text))) c.in-None.ensures.value ∙ is)))
