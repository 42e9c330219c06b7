-- The text of a reply: one JSON object, compact, its keys in byte order.
use Rattle.std.specs.Prelude.{ℕ, ℤ, List, [], ◌∷◌, ◌++◌, codes}
use Rattle.std.specs.Fmt.{decimal, signed_decimal}
use Rattle.points.specs.RuleCode.{code_of}
use Rattle.points.specs.declared.Answer.{Answer}
use Rattle.points.specs.declared.Answer.TheVariants.{Done, Refused}
use Rattle.deliveries.specs.declared.reply.Reply.{Reply}
use Rattle.deliveries.specs.declared.reply.Reply.TheVariants.{Answered, BadNumber, Differs, NoPanel}
use Rattle.deliveries.specs.declared.reply.Reply.TheVariants.{Forgotten, Parked, SkipDone, Skipped, TooFar}
use Rattle.deliveries.specs.declared.reply.Reply.TheVariants.{BadMoment, Imported, ImportRefused, Old, Ticked}
use Rattle.building_holidays.specs.ImportFaults.{fault}
use Rattle.building_holidays.specs.ImportTexts.{cause_text}
use Rattle.building_holidays.specs.declared.import_fault.ImportCause.TheVariants.{UnknownCalendar}
use Rattle.building_holidays.specs.declared.import_fault.ImportFault.{ImportFault}

-- the text of a command's answer, with the command's number
abbrev pub answer_text : ℤ → Answer → List ℕ
answer_text number (Done present priority) = codes "{\"answer\":\"done\",\"number\":"
    ++ (signed_decimal number ++ (codes ",\"present\":"
    ++ (signed_decimal present ++ (codes ",\"priority\":" ++ (decimal priority ++ codes "}")))))
answer_text number (Refused rule) = codes "{\"answer\":\"refused\",\"number\":"
    ++ (signed_decimal number ++ (codes ",\"rule\":\"" ++ (code_of rule ++ codes "\"}")))

-- the text of an import that is refused
abbrev pub refusal_text : ImportFault → List ℕ
refusal_text refused = codes "{\"answer\":\"import_refused\",\"fault\":\""
    ++ (cause_text refused.cause ++ (codes "\",\"record\":" ++ (decimal refused.«record» ++ codes "}")))

abbrev pub reply_text : Reply → List ℕ
reply_text NoPanel = codes "{\"answer\":\"no_panel\"}"
reply_text BadNumber = codes "{\"answer\":\"bad_number\"}"
reply_text (Differs number) =
    codes "{\"answer\":\"differs\",\"number\":" ++ (signed_decimal number ++ codes "}")
reply_text (Answered number answer) = answer_text number answer
reply_text (Parked next number) = codes "{\"answer\":\"parked\",\"next\":"
    ++ (decimal next ++ (codes ",\"number\":" ++ (signed_decimal number ++ codes "}")))
reply_text (Skipped number) =
    codes "{\"answer\":\"skipped\",\"number\":" ++ (signed_decimal number ++ codes "}")
reply_text (TooFar next number) = codes "{\"answer\":\"too_far\",\"next\":"
    ++ (decimal next ++ (codes ",\"number\":" ++ (signed_decimal number ++ codes "}")))
reply_text (SkipDone next) = codes "{\"answer\":\"skip\",\"next\":" ++ (decimal next ++ codes "}")
reply_text (Forgotten number) =
    codes "{\"answer\":\"forgotten\",\"number\":" ++ (signed_decimal number ++ codes "}")
reply_text (Ticked writes) = codes "{\"answer\":\"tick\",\"writes\":" ++ (decimal writes ++ codes "}")
reply_text Old = codes "{\"answer\":\"old\",\"writes\":0}"
reply_text BadMoment = codes "{\"answer\":\"bad_moment\"}"
reply_text (Imported added known writes) = codes "{\"added\":"
    ++ (decimal added ++ (codes ",\"answer\":\"import\",\"known\":"
    ++ (decimal known ++ (codes ",\"writes\":" ++ (decimal writes ++ codes "}")))))
reply_text (ImportRefused place) = refusal_text (fault UnknownCalendar place)

-- the texts with the end of a line (LF)
abbrev pub reply_line : Reply → List ℕ
reply_line reply = reply_text reply ++ 10 ∷ []

abbrev pub refusal_line : ImportFault → List ℕ
refusal_line refused = refusal_text refused ++ 10 ∷ []
