-- What a line of a list of deliveries is answered, and what it leaves.
use Rattle.std.specs.Prelude.{◌≡◌, ◌⊎◌, ℕ, List, [], ◌∷◌, ◌++◌, Option, Some, None, Result, Ok, Err}
use Rattle.store.specs.declared.fault.StoreFault.{StoreFault}
use Rattle.store.specs.declared.fault.StoreFault.TheVariants.{BadRow, Failed, NoMemory, Shut}
use Rattle.store.specs.Standing.{Standing}
use Rattle.building.specs.Building.{Building}
use Rattle.deliveries.specs.declared.delivery.Delivery.{Delivery}
use Rattle.deliveries.specs.Reply.{reply}
use Rattle.deliveries.specs.Delivered.{Holds, LeavesEither}
use Rattle.delivery_json.specs.declared.line_fault.LineFault.{LineFault}
use Rattle.delivery_json.specs.declared.line_fault.LineFault.TheVariants.{NotDelivery, NotDone}
use Rattle.delivery_json.specs.declared.parsed_line.ParsedLine.{ParsedLine}
use Rattle.delivery_json.specs.declared.parsed_line.ParsedLine.TheVariants as parsed
use Rattle.delivery_json.specs.ReplyText.{refusal_line, reply_line}
use Rattle.building_holidays.specs.declared.import_fault.ImportFault.{ImportFault}

-- the text that was written, where that succeeded
abbrev pub with_text : {Fault : Type 0} → Result (Unit {0}) Fault → List ℕ → Result (List ℕ) Fault
with_text (Ok done) text = Ok text
with_text (Err fault) text = Err fault

-- where a delivery after earlier ones has no answer: after a want of memory the store holds the tables of the earlier
-- ones, or those with this one; after a failure it leaves the one or the other
abbrev pub LeavesDelivery : Building → List Delivery → Delivery → StoreFault → Standing → Type 0
LeavesDelivery building earlier delivery NoMemory now = Holds building earlier now ⊎ Holds building (earlier ++ delivery ∷ []) now
LeavesDelivery building earlier delivery Failed now = LeavesEither building earlier (earlier ++ delivery ∷ []) now
LeavesDelivery building earlier delivery Shut now = Unit {0}
LeavesDelivery building earlier delivery BadRow now = ⊥

-- on the line of a delivery after earlier ones: the text of the definition's reply, and the tables with this one
abbrev pub AnswersDelivery : Building → List Delivery → Delivery → Result (List ℕ) LineFault → Standing
    → Type 0
AnswersDelivery building earlier delivery (Ok text) now =
    (text ≡ reply_line (reply building earlier delivery)) × Holds building (earlier ++ delivery ∷ []) now
AnswersDelivery building earlier delivery (Err NotDelivery) now = ⊥
AnswersDelivery building earlier delivery (Err (NotDone fault)) now = LeavesDelivery building earlier delivery fault now

-- on the line of an import whose holiday list is at fault: the text of its refusal, or a want of memory, and the
-- tables of the earlier ones
abbrev pub AnswersRefused : Building → List Delivery → ImportFault → Result (List ℕ) LineFault → Standing
    → Type 0
AnswersRefused building earlier refused (Ok text) now = (text ≡ refusal_line refused) × Holds building earlier now
AnswersRefused building earlier refused (Err NotDelivery) now = ⊥
AnswersRefused building earlier refused (Err (NotDone fault)) now = (fault ≡ NoMemory) × Holds building earlier now

-- on another line: that it is no delivery, or a want of memory, and the tables of the earlier ones
abbrev pub AnswersOther : Building → List Delivery → Result (List ℕ) LineFault → Standing → Type 0
AnswersOther building earlier (Ok text) now = ⊥
AnswersOther building earlier (Err NotDelivery) now = Holds building earlier now
AnswersOther building earlier (Err (NotDone fault)) now = (fault ≡ NoMemory) × Holds building earlier now

abbrev pub AnswersLine : Building → List Delivery → Option ParsedLine → Result (List ℕ) LineFault → Standing
    → Type 0
AnswersLine building earlier (Some (parsed.Delivery delivery)) answered now = AnswersDelivery building earlier delivery answered now
AnswersLine building earlier (Some (parsed.RefusedImport refused)) answered now = AnswersRefused building earlier refused answered now
AnswersLine building earlier None answered now = AnswersOther building earlier answered now
