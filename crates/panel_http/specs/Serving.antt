-- What the bytes of an input get of the desk, and which tables are left, after a list of deliveries.
use Rattle.std.specs.Prelude.{◌≡◌, ◌<◌, ◌⊎◌, ℕ, Bool, List, [], length, string_bytes, Option, Some, None, Result, Ok, Err}
use Rattle.std.specs.Bool.{IsTrue}
use Rattle.std.specs.Io.KnownBytes.{Appends, Keeps}
use Rattle.building.specs.Building.{Building}
use Rattle.panel_http.specs.Counting.{Lost}
use Rattle.store.specs.Standing.{HasRisen, Standing}
use Rattle.deliveries.specs.Delivered.{Holds}
use Rattle.deliveries.specs.declared.delivery.Delivery.{Delivery}
use Rattle.panel_http.specs.Answers.{IsSaid, StoreEnds, after}
use Rattle.panel_http.specs.declared.unanswered.Unanswered.{Unanswered}
use Rattle.panel_http.specs.declared.unanswered.Unanswered.TheVariants as unanswered
use Rattle.panel_http.specs.Requests.{IsRequest}
use Rattle.panel_http.specs.declared.request.Request.{Request}
use Rattle.panel_http.specs.Response.{Said, Status, response_text}
use Rattle.panel_http.specs.Responses.{no_memory_said, store_said}
use Rattle.panel_http.specs.declared.whole_response.Response.{Response}
use Rattle.panel_http.specs.declared.served.Served.{Served}
use Rattle.panel_http.specs.declared.served.Served.TheVariants.{Answered, NoReply, NoRequest, ReplyLost}
use Rattle.points.specs.Texts.{Text}

-- the status and the text of what is said
abbrev pub IsOf : Said → Status → Text → Type 0
IsOf said code text = (code ≡ said.status) × (text ≡ response_text said)

-- ---- what is given, and what the store holds then

-- the response of the definitions to what the bytes ask, and the tables with what they deliver
pub record Responds (building : Building) (earlier : List Delivery) (bytes : Text) (code : Status) (text : Text)
    (now : Standing) : Type 0 where
  pub request : Request
  pub is_request : IsRequest building bytes request
  pub said : Said
  pub is_said : IsSaid building earlier request said
  pub is_given : IsOf said code text
  pub holds : Holds building (after earlier request) now

-- memory was refused, and nothing is delivered
pub record LacksMemory (building : Building) (earlier : List Delivery) (code : Status) (text : Text)
    (now : Standing) : Type 0 where
  pub is_given : IsOf no_memory_said code text
  pub holds : Holds building earlier now

-- the record can't be written, and is shut; nothing is delivered
pub record LacksRecord (building : Building) (earlier : List Delivery) (code : Status) (text : Text)
    (now : Standing) (record_is_shut : Bool) : Type 0 where
  pub is_given : IsOf store_said code text
  pub is_shut : IsTrue record_is_shut
  pub holds : Holds building earlier now

-- the store failed in this call, or was shut
pub record LacksStore (building : Building) (earlier : List Delivery) (bytes : Text) (code : Status) (text : Text)
    (old now : Standing) : Type 0 where
  pub request : Request
  pub is_request : IsRequest building bytes request
  pub is_given : IsOf store_said code text
  pub ends : StoreEnds building earlier (after earlier request) old now

abbrev pub Tells : Building → List Delivery → Text → Status → Text → Standing → Standing → Bool → Type 0
Tells building earlier bytes code text old now record_is_shut =
    Responds building earlier bytes code text now
    ⊎ (LacksMemory building earlier code text now
    ⊎ (LacksRecord building earlier code text now record_is_shut ⊎ LacksStore building earlier bytes code text old now))

-- nothing is given, and the tables are those with what the bytes deliver
pub record IsSilent (building : Building) (earlier : List Delivery) (bytes : Text) (now : Standing) : Type 0 where
  pub request : Request
  pub is_request : IsRequest building bytes request
  pub holds : Holds building (after earlier request) now

-- ---- what is written

-- One request: a response was written whole; or a write failed, and a beginning of one was; or a read failed, or
-- there was no byte; or memory for the response was refused. Of the reader the counts of failures before and after,
-- of the writer what it holds and its counts, how the store stands, and whether the record is shut then.
abbrev pub Serves : Building → List Delivery → Text → ℕ → ℕ → Option Text → Option Text → ℕ → ℕ → Standing → Standing → Bool
    → Served → Type 0
Serves building earlier bytes read_before read_after held holds before now old new shut (Answered code) =
    (0 < length bytes) × (text : Text) × Appends held holds text × Tells building earlier bytes code text old new shut
Serves building earlier bytes read_before read_after held holds before now old new shut ReplyLost =
    (0 < length bytes) × (code : Status) × (text : Text) × Lost held holds text before now
    × Tells building earlier bytes code text old new shut
Serves building earlier bytes read_before read_after held holds before now old new shut NoRequest =
    (HasRisen read_before read_after ⊎ (bytes ≡ [])) × Keeps held holds × Holds building earlier new
Serves building earlier bytes read_before read_after held holds before now old new shut NoReply =
    (0 < length bytes) × Keeps held holds × IsSilent building earlier bytes new

-- ---- how an answer is written

-- the status and the text of an answer
abbrev pub written : Result Response Unanswered → Option (Status × Text)
written (Ok response) = Some (response.status, string_bytes response.text)
written (Err unanswered.NoMemory) = Some (no_memory_said.status, response_text no_memory_said)
written (Err unanswered.NotRecorded) = Some (store_said.status, response_text store_said)
written (Err unanswered.Store) = Some (store_said.status, response_text store_said)
written (Err unanswered.NoReply) = None

abbrev pub Writes : Option (Status × Text) → Option Text → Option Text → ℕ → ℕ → Served → Type 0
Writes given held holds before now (Answered code) = (text : Text) × (given ≡ Some (code, text)) × Appends held holds text
Writes given held holds before now ReplyLost =
    (code : Status) × (text : Text) × (given ≡ Some (code, text)) × Lost held holds text before now
Writes given held holds before now NoRequest = ⊥
Writes given held holds before now NoReply = (given ≡ None) × Keeps held holds
