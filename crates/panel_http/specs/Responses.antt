-- What is said to each request. Which status an answer has is this desk's own choice: 200 where what was asked is done or
-- what was asked for follows, 202 where a command is parked, 400 where the request or a number in it is at fault, 404 where
-- there is no such route, panel, point or day, 409 where another content has the number or it lies too far ahead, 410 where
-- the number was skipped or its answer is kept no more, 422 where a rule refuses the command or the holiday list is at
-- fault, 500 where the store failed, and 503 where memory was refused.
use Rattle.std.specs.Prelude.{ℕ, ℤ, List, ◌++◌, codes, Option, Some, None}
use Rattle.std.specs.FinMap.{get}
use Rattle.std.specs.Fmt.{decimal, signed_decimal}
use Rattle.std.specs.List.{flat_map, range_with_len}
use Rattle.points.specs.PriorityArray.{Places}
use Rattle.points.specs.declared.Answer.{Answer}
use Rattle.points.specs.declared.Answer.TheVariants.{Done, Refused}
use Rattle.deliveries.specs.declared.reply.Reply.{Reply}
use Rattle.deliveries.specs.declared.reply.Reply.TheVariants.{Answered, BadNumber, Differs, NoPanel}
use Rattle.deliveries.specs.declared.reply.Reply.TheVariants.{Forgotten, Parked, SkipDone, Skipped, TooFar}
use Rattle.deliveries.specs.declared.reply.Reply.TheVariants.{BadMoment, Imported, ImportRefused, Old, Ticked}
use Rattle.delivery_json.specs.ReplyText.{refusal_text, reply_text}
use Rattle.building_holidays.specs.declared.import_fault.ImportFault.{ImportFault}
use Rattle.panel_http.specs.Response.{Said, Status, json, plain}
use Rattle.panel_http.specs.declared.refusal.Refusal.{Refusal}
use Rattle.panel_http.specs.declared.refusal.Refusal.TheVariants.{CutBody, NoHead, NoRoute, NotDelivery}
use Rattle.panel_http.specs.declared.refusal.Refusal.TheVariants.{TooLong, UnclearLength}

-- ---- replies to deliveries

abbrev pub answer_status : Answer → Status
answer_status (Done present priority) = 200
answer_status (Refused rule) = 422

abbrev pub reply_status : Reply → Status
reply_status (Answered number answer) = answer_status answer
reply_status (SkipDone next) = 200
reply_status (Ticked writes) = 200
reply_status Old = 200
reply_status (Imported added known writes) = 200
reply_status (Parked next number) = 202
reply_status BadNumber = 400
reply_status BadMoment = 400
reply_status NoPanel = 404
reply_status (Differs number) = 409
reply_status (TooFar next number) = 409
reply_status (Skipped number) = 410
reply_status (Forgotten number) = 410
reply_status (ImportRefused place) = 422

abbrev pub reply_said : Reply → Said
reply_said reply = json (reply_status reply) (reply_text reply)

-- a holiday list at fault
abbrev pub import_refused_said : ImportFault → Said
import_refused_said fault = json 422 (refusal_text fault)

-- ---- refusals of requests

abbrev pub bad_request : List ℕ → Said
bad_request fault = json 400 (codes "{\"answer\":\"bad_request\",\"fault\":\"" ++ (fault ++ codes "\"}"))

abbrev pub refusal_said : Refusal → Said
refusal_said NoHead = bad_request (codes "H1")
refusal_said UnclearLength = bad_request (codes "H2")
refusal_said NoRoute = json 404 (codes "{\"answer\":\"no_route\"}")
refusal_said TooLong = bad_request (codes "H4")
refusal_said CutBody = bad_request (codes "H5")
refusal_said NotDelivery = bad_request (codes "H6")

-- ---- points and reports

abbrev pub place_text : Option ℤ → List ℕ
place_text None = codes "null"
place_text (Some value) = signed_decimal value

-- the sixteen places, divided by commas
abbrev pub places_text : Places → List ℕ
places_text places =
    place_text (get places 1) ++ flat_map (λ priority. codes "," ++ place_text (get places priority)) (range_with_len 2 15)

abbrev pub point_body : List ℕ → Places → ℤ → ℕ → List ℕ
point_body name places present priority =
    codes "{\"answer\":\"point\",\"places\":[" ++ (places_text places
    ++ (codes "],\"point\":\"" ++ (name
    ++ (codes "\",\"present\":" ++ (signed_decimal present
    ++ (codes ",\"priority\":" ++ (decimal priority ++ codes "}")))))))

abbrev pub point_said : List ℕ → Places → ℤ → ℕ → Said
point_said name places present priority = json 200 (point_body name places present priority)

abbrev pub no_point_said : Said
no_point_said = json 404 (codes "{\"answer\":\"no_point\"}")

abbrev pub report_said : List ℕ → Said
report_said report = plain 200 report

abbrev pub no_day_said : Said
no_day_said = json 404 (codes "{\"answer\":\"no_day\"}")

-- ---- what the desk could not do

abbrev pub no_memory_said : Said
no_memory_said = json 503 (codes "{\"answer\":\"no_memory\"}")

abbrev pub store_said : Said
store_said = json 500 (codes "{\"answer\":\"store\"}")
