-- What is written of an answer tells what the desk answers.
use Rattle.std.proofs.Common.{◌≡◌, ◌∙◌, ◌<◌, inl, inr, refl, sym, ap, ℕ, Bool, List, length, Option, Some, None, Result, Ok, Err}
use Rattle.std.specs.Bool.{IsTrue}
use Rattle.building.specs.Building.{Building}
use Rattle.deliveries.specs.declared.delivery.Delivery.{Delivery}
use Rattle.deliveries.specs.Delivered.{Holds}
use Rattle.panel_http.specs.Answers.{Answers}
use Rattle.panel_http.specs.declared.unanswered.Unanswered.{Unanswered}
use Rattle.panel_http.specs.declared.unanswered.Unanswered.TheVariants as unanswered
use Rattle.panel_http.specs.Requests.{IsRequest}
use Rattle.panel_http.specs.declared.request.Request.{Request}
use Rattle.panel_http.specs.Response.{Status}
use Rattle.panel_http.specs.declared.whole_response.Response.{Response}
use Rattle.store.specs.Standing.{Standing}
use Rattle.panel_http.specs.Serving.{IsSilent, Serves, Tells, Writes, written}
use Rattle.points.specs.Texts.{Text}
use Rattle.panel_http.specs.declared.served.Served.{Served}
use Rattle.panel_http.specs.declared.served.Served.TheVariants.{Answered, NoReply, NoRequest, ReplyLost}

abbrev status_or : Status → Option (Status × Text) → Status
status_or default None = default
status_or default (Some given) = given.0

abbrev text_or : Text → Option (Status × Text) → Text
text_or default None = default
text_or default (Some given) = given.1

-- what an answer that is written tells
tells : (b : Building) (earlier : List Delivery) (bytes : Text) (request : Request) (answer : Result Response Unanswered)
    (old now : Standing) (shut : Bool) (status : Status) (text : Text)
    → IsRequest b bytes request → Answers b earlier request answer old now → (answer ≡ Err unanswered.NotRecorded → IsTrue shut)
    → written answer ≡ Some (status, text) → Tells b earlier bytes status text old now shut
tells b earlier bytes request (Ok response) old now shut status text is answers lost given =
    let (said, says, is_said, holds) = answers in
    inl (record {
      request = request;
      is_request = is;
      said = said;
      is_said = is_said;
      is_given = (sym (ap (status_or status) given) ∙ says.status, sym (ap (text_or text) given) ∙ says.text);
      holds = holds;
    })
tells b earlier bytes request (Err unanswered.NoMemory) old now shut status text is answers lost given =
    inr (inl (record { is_given = (sym (ap (status_or status) given), sym (ap (text_or text) given)); holds = answers }))
tells b earlier bytes request (Err unanswered.NotRecorded) old now shut status text is answers lost given =
    inr (inr (inl (record {
      is_given = (sym (ap (status_or status) given), sym (ap (text_or text) given));
      is_shut = lost refl;
      holds = answers;
    })))
tells b earlier bytes request (Err unanswered.Store) old now shut status text is answers lost given =
    inr (inr (inr (record {
      request = request;
      is_request = is;
      is_given = (sym (ap (status_or status) given), sym (ap (text_or text) given));
      ends = answers;
    })))
tells b earlier bytes request (Err unanswered.NoReply) old now shut status text is answers lost given = absurd (cc given)

silent : (b : Building) (earlier : List Delivery) (bytes : Text) (request : Request) (answer : Result Response Unanswered)
    (old now : Standing)
    → IsRequest b bytes request → Answers b earlier request answer old now → written answer ≡ None → IsSilent b earlier bytes now
silent b earlier bytes request (Ok response) old now is answers given = absurd (cc given)
silent b earlier bytes request (Err unanswered.NoMemory) old now is answers given = absurd (cc given)
silent b earlier bytes request (Err unanswered.NotRecorded) old now is answers given = absurd (cc given)
silent b earlier bytes request (Err unanswered.Store) old now is answers given = absurd (cc given)
silent b earlier bytes request (Err unanswered.NoReply) old now is answers given =
    record { request = request; is_request = is; holds = answers }

-- an answer to a request, written
pub serves-answer : (b : Building) (earlier : List Delivery) (bytes : Text) (request : Request) (answer : Result Response Unanswered)
    (read_before read_after : ℕ) (held holds : Option Text) (before after : ℕ) (old now : Standing) (shut : Bool) (served : Served)
    → 0 < length bytes → IsRequest b bytes request → Answers b earlier request answer old now
    → (answer ≡ Err unanswered.NotRecorded → IsTrue shut) → Writes (written answer) held holds before after served
    → Serves b earlier bytes read_before read_after held holds before after old now shut served
serves-answer b earlier bytes request answer rb ra held holds before after old now shut (Answered status) some is answers lost (text, given, appends) =
    (some, text, appends, tells b earlier bytes request answer old now shut status text is answers lost given)
serves-answer b earlier bytes request answer rb ra held holds before after old now shut ReplyLost some is answers of (status, text, given, lost) =
    (some, status, text, lost, tells b earlier bytes request answer old now shut status text is answers of given)
serves-answer b earlier bytes request answer rb ra held holds before after old now shut NoRequest some is answers lost writes = absurd writes
serves-answer b earlier bytes request answer rb ra held holds before after old now shut NoReply some is answers lost (given, keeps) =
    (some, keeps, silent b earlier bytes request answer old now is answers given)

-- the answer that memory was refused, written: no request was read
pub serves-no-memory : (b : Building) (earlier : List Delivery) (bytes : Text) (read_before read_after : ℕ) (held holds : Option Text)
    (before after : ℕ) (old now : Standing) (shut : Bool) (served : Served) → 0 < length bytes → Holds b earlier now
    → Writes (written (Err unanswered.NoMemory)) held holds before after served
    → Serves b earlier bytes read_before read_after held holds before after old now shut served
serves-no-memory b earlier bytes rb ra held holds before after old now shut (Answered status) some stands (text, given, appends) = (
  some,
  text,
  appends,
  inr (inl (record { is_given = (sym (ap (status_or status) given), sym (ap (text_or text) given)); holds = stands })),
)
serves-no-memory b earlier bytes rb ra held holds before after old now shut ReplyLost some stands (status, text, given, lost) = (
  some,
  status,
  text,
  lost,
  inr (inl (record { is_given = (sym (ap (status_or status) given), sym (ap (text_or text) given)); holds = stands })),
)
serves-no-memory b earlier bytes rb ra held holds before after old now shut NoRequest some stands writes = absurd writes
serves-no-memory b earlier bytes rb ra held holds before after old now shut NoReply some stands (given, keeps) = absurd (cc given)
