-- Bytes after which nothing that follows changes what is asked.
use Rattle.std.proofs.Common.{◌≡◌, ◌∙◌, ◌<◌, ◌≤◌, ◌-◌, ◌⊎◌, inl, inr, ℕ, ℤ, zero, suc, List, [], ◌∷◌, ◌++◌, length, take, drop, replicate, refl, arith, sym, ap, subst, append_assoc, append-nil, length-append, Option, Some, None, option_map, Result, Ok, Err, Bool, true, false, nat_le, if◌then◌else◌, codes}
use lib.ListN.{take-append-drop}
use lib.Seq.{take-append-le}
use Rattle.building.specs.Building.{Building}
use Rattle.httparse.specs.Grammar.{HasNoRequest, RequestHead, print_request}
use Rattle.httparse.specs.Spans.{IsRequestAt, IsRequestOf, IsRequestWithin, RequestOverflows}
use Rattle.httparse.specs.declared.spans.HeaderSpan.{HeaderSpan}
use Rattle.httparse.specs.declared.spans.RequestSpans.{RequestSpans}
use Rattle.httparse.proofs.GrammarLemmas.{ReadsRequest-append, request_unique}
use Rattle.panel_http.specs.Heads.{HasNoHead, IsHead}
use Rattle.panel_http.specs.Endings.{MayBegin}
use Rattle.panel_http.proofs.HeadLemmas.{full_has_none, head_in, overflow_has_none}
use Rattle.panel_http.specs.BodyLength.{body_length_of}
use Rattle.panel_http.specs.AskedRoute.{RouteAndLength, of_length, route_asked, with_limit}
use Rattle.serde_json.specs.Data.{Data}
use Rattle.deliveries.specs.declared.delivery.Delivery.TheVariants.{Tick}
use Rattle.delivery_json.specs.ClockLine.{import_of}
use Rattle.delivery_json.specs.DeliveryLine.{json_of}
use Rattle.delivery_json.specs.Members.{lone_integer}
use Rattle.delivery_json.specs.declared.panel_line.CommandBody.{CommandBody}
use Rattle.delivery_json.specs.declared.parsed_line.ParsedLine.{ParsedLine}
use Rattle.delivery_json.specs.declared.parsed_line.ParsedLine.TheVariants as parsed
use Rattle.points.specs.Steps.{◌>>=◌}
use Rattle.panel_http.specs.RequestBody.{command_body, command_by, command_in, command_of, named, of_import, skip_body, skip_by, skip_of, tick_body, tick_of}
use Rattle.panel_http.specs.Requests.{IsAsked, IsAskedBy, IsRequest, IsRequestTo, or_refused}
use Rattle.panel_http.specs.Routes as routes
use Rattle.panel_http.specs.Routes.{RouteValue, limit_of, route_of}
use Rattle.std.proofs.lemmas.Bool.{cases_lt}
use Rattle.std.proofs.lemmas.List.{length-replicate, take_all}
use Rattle.panel_http.specs.Whole.{IsWhole, Lacks, lacks_of}
use Rattle.panel_http.specs.declared.request.Request.{Request}
use Rattle.panel_http.specs.declared.request.Request.TheVariants.{Delivery, Refused}
use Rattle.panel_http.specs.declared.refusal.Refusal.{Refusal}
use Rattle.panel_http.specs.declared.refusal.Refusal.TheVariants.{CutBody, NoHead, NotDelivery, TooLong}

-- the bytes and what follows, from a beginning of theirs on
whole_from : (k : ℕ) (bytes more : List ℕ) → bytes ++ more ≡ take k bytes ++ (drop k bytes ++ more)
whole_from k bytes more = ap (λ l. l ++ more) (sym (take-append-drop k bytes)) ∙ append_assoc (take k bytes) (drop k bytes) more

-- of bytes without a head the same is asked
none-same : (building : Building) (request : Request) (from to : List ℕ) → HasNoHead from → HasNoHead to
    → IsRequest building from request → IsRequest building to request
none-same building request from to none never (inl of) = absurd (none of.head of.after of.is_head)
none-same building request from to none never (inr is) = inr (never, is.1)

-- no head can come
none-whole : (building : Building) (bytes : List ℕ) → 0 < length bytes → ((more : List ℕ) → HasNoHead (bytes ++ more))
    → HasNoHead bytes → IsWhole building bytes
none-whole building bytes some never none = record {
  some = some;
  steady = λ request more. (
    λ is. none-same building request bytes (bytes ++ more) none (never more) is,
    λ is. none-same building request (bytes ++ more) bytes (never more) none is,
  );
}

-- a beginning of the bytes was refused
pub refused-whole : (building : Building) (k : ℕ) (bytes : List ℕ) → 0 < length (take k bytes) → 0 < length bytes
    → RequestOverflows 64 (take k bytes) → IsWhole building bytes
refused-whole building k bytes begun some over = none-whole building bytes some
    (λ more. overflow_has_none (take k bytes) (drop k bytes ++ more) (bytes ++ more) (whole_from k bytes more) over)
    (overflow_has_none (take k bytes) (drop k bytes) bytes (sym (take-append-drop k bytes)) over)

-- a beginning of the bytes is as long as a head may be, and has none
pub full-whole : (building : Building) (k : ℕ) (bytes : List ℕ) → length (take k bytes) ≡ 8_192 → 0 < length bytes
    → HasNoRequest (take k bytes) → IsWhole building bytes
full-whole building k bytes full some without = none-whole building bytes some
    (λ more. full_has_none (take k bytes) (drop k bytes ++ more) (bytes ++ more) (whole_from k bytes more) full without)
    (full_has_none (take k bytes) (drop k bytes) bytes (sym (take-append-drop k bytes)) full without)

-- what a head asks of bytes of which it lacks none it asks of more, and the other way
asks-more : (b : Building) (asked : Result RouteAndLength Refusal) (after more : List ℕ) (request : Request)
    → lacks_of asked (length after) ≡ 0 → IsAskedBy b asked after request → IsAskedBy b asked (after ++ more) request
asks-more b (Err refusal) after more request none asks = asks
asks-more b (Ok (route, size)) after more request none (inl is) =
    let longer = length-append after more in
    inl (omega arith, subst (λ l. IsRequestTo b route l request) (sym (take-append-le size after more is.0)) is.1)
asks-more b (Ok (route, size)) after more request none (inr is) = let short = is.0 in absurd (omega arith)

asks-less : (b : Building) (asked : Result RouteAndLength Refusal) (after more : List ℕ) (request : Request)
    → lacks_of asked (length after) ≡ 0 → IsAskedBy b asked (after ++ more) request → IsAskedBy b asked after request
asks-less b (Err refusal) after more request none asks = asks
asks-less b (Ok (route, size)) after more request none (inl is) =
    let fits : size ≤ length after = omega arith in
    inl (fits, subst (λ l. IsRequestTo b route l request) (take-append-le size after more fits) is.1)
asks-less b (Ok (route, size)) after more request none (inr is) =
    let short = is.0 in
    let longer = length-append after more in absurd (omega arith)

-- the bytes with more behind them begin with the same head
head-more : (bytes more rest : List ℕ) (head : RequestHead) → IsHead bytes head rest → IsHead (bytes ++ more) head (rest ++ more)
head-more bytes more rest head is = record {
  reads = ReadsRequest-append bytes head rest more is.reads;
  short = is.short;
  few = is.few;
}

-- what is asked of bytes that begin with a head is what the head asks
pub asked-by_head : (b : Building) (bytes rest : List ℕ) (request : Request) (head : RequestHead) → IsHead bytes head rest
    → IsRequest b bytes request → IsAskedBy b (route_asked head) rest request
asked-by_head b bytes rest request head is (inr without) = absurd (without.0 head rest is)
asked-by_head b bytes rest request head is (inl of) =
    let same = request_unique bytes of.head head of.after rest of.is_head.reads is.reads in
    subst (λ h. IsAskedBy b (route_asked h) rest request) same.0
    (subst (λ l. IsAskedBy b (route_asked of.head) l request) same.1 of.asks)

of-head : (b : Building) (bytes rest : List ℕ) (request : Request) (head : RequestHead) → IsHead bytes head rest
    → IsAskedBy b (route_asked head) rest request → IsRequest b bytes request
of-head b bytes rest request head is asks = inl (record { head = head; after = rest; is_head = is; asks = asks })

-- the head has come, and all that it asks for
pub head-steady : (b : Building) (bytes rest : List ℕ) (head : RequestHead) → 0 < length bytes → IsHead bytes head rest
    → lacks_of (route_asked head) (length rest) ≡ 0 → IsWhole b bytes
head-steady b bytes rest head some is none = record {
  some = some;
  steady = λ request more. (
    λ asks. of-head b (bytes ++ more) (rest ++ more) request head (head-more bytes more rest head is)
        (asks-more b (route_asked head) rest more request none (asked-by_head b bytes rest request head is asks)),
    λ asks. of-head b bytes rest request head is
        (asks-less b (route_asked head) rest more request none
        (asked-by_head b (bytes ++ more) (rest ++ more) request head (head-more bytes more rest head is) asks)),
  );
}

-- the head that the parser found, and how much stands behind it
pub found-head : (k : ℕ) (bytes : List ℕ) (headers : List HeaderSpan) (spans : RequestSpans) → k ≤ 8_192
    → length headers ≡ 64 → IsRequestWithin (take k bytes) headers spans → IsRequestOf (take k bytes) headers spans
    → (head : RequestHead) × (rest : List ℕ) × IsHead bytes head rest
    × IsRequestAt (take k bytes) headers spans head × (length bytes - spans.len ≡ length rest)
found-head k bytes headers spans fits room within is =
    let (head, rest, is_head, parts) = head_in k bytes headers spans fits room within is in
    let sized = ap length is_head.reads.1 ∙ length-append (print_request head) rest in
    let ends = parts.len in
    (head, rest, is_head, parts, omega arith)

-- ---- bytes that are not whole

-- what a body says is no refusal
abbrev NeverRefuses : Option Request → Type 0
NeverRefuses said = (refusal : Refusal) → said ≡ Some (Refused refusal) → ⊥

command-never : (panel : Option (List ℕ)) (command : Option CommandBody) → NeverRefuses (option_map (command_by panel) command)
command-never panel None refusal is = absurd (cc is)
command-never None (Some command) refusal is = absurd (cc is)
command-never (Some panel) (Some command) refusal is = absurd (cc is)

skip-never : (panel : Option (List ℕ)) (upto : Option ℤ) → NeverRefuses (option_map (skip_by panel) upto)
skip-never panel None refusal is = absurd (cc is)
skip-never None (Some upto) refusal is = absurd (cc is)
skip-never (Some panel) (Some upto) refusal is = absurd (cc is)

tick-never : (at : Option ℤ) → NeverRefuses (option_map (λ at. Delivery (Tick at)) at)
tick-never None refusal is = absurd (cc is)
tick-never (Some at) refusal is = absurd (cc is)

data-never : (found : Option Data) (meant : Data → Option Request) → ((d : Data) → NeverRefuses (meant d)) → NeverRefuses (found >>= meant)
data-never None meant never refusal is = absurd (cc is)
data-never (Some d) meant never refusal is = never d refusal is

import-never : (line : ParsedLine) (refusal : Refusal) → Refused refusal ≡ of_import line → ⊥
import-never (parsed.Delivery delivery) refusal is = absurd (cc is)
import-never (parsed.RefusedImport fault) refusal is = absurd (cc is)

refused-as : (said : Option Request) → NeverRefuses said → (refusal : Refusal) → (refusal ≡ NotDelivery → ⊥)
    → Refused refusal ≡ or_refused said → ⊥
refused-as None never refusal other is = other (cc is)
refused-as (Some request) never refusal other is = never refusal (ap Some (sym is))

command-refused : (segment : Option (List ℕ)) (body : List ℕ) (refusal : Refusal) → (refusal ≡ NotDelivery → ⊥)
    → Refused refusal ≡ or_refused (command_body segment body) → ⊥
unfolding command_body
command-refused segment body =
    refused-as (command_body segment body)
    (data-never (json_of body) (command_of (named segment)) (λ d. command-never (named segment) (command_in d)))

skip-refused : (segment : Option (List ℕ)) (body : List ℕ) (refusal : Refusal) → (refusal ≡ NotDelivery → ⊥)
    → Refused refusal ≡ or_refused (skip_body segment body) → ⊥
unfolding skip_body
skip-refused segment body =
    refused-as (skip_body segment body)
    (data-never (json_of body) (skip_of (named segment)) (λ d. skip-never (named segment) (lone_integer (codes "upto") d)))

tick-refused : (body : List ℕ) (refusal : Refusal) → (refusal ≡ NotDelivery → ⊥) → Refused refusal ≡ or_refused (tick_body body) → ⊥
unfolding tick_body
tick-refused body =
    refused-as (tick_body body) (data-never (json_of body) tick_of (λ d. tick-never (lone_integer (codes "at") d)))

-- a body is refused as no delivery, or not at all
not-refused : (b : Building) (route : RouteValue) (body : List ℕ) (refusal : Refusal) → (refusal ≡ NotDelivery → ⊥)
    → IsRequestTo b route body (Refused refusal) → ⊥
not-refused b (routes.Point segment) body refusal other is = absurd (cc is)
not-refused b (routes.Report segment) body refusal other (day, is, spells) = absurd (cc is)
not-refused b routes.Points body refusal other is = absurd (cc is)
not-refused b (routes.Why segment) body refusal other is = absurd (cc is)
not-refused b (routes.Panel segment) body refusal other is = absurd (cc is)
not-refused b routes.Record body refusal other is = absurd (cc is)
not-refused b routes.Metrics body refusal other is = absurd (cc is)
not-refused b (routes.Commands segment) body refusal other is = command-refused segment body refusal other is
not-refused b (routes.Skip segment) body refusal other is = skip-refused segment body refusal other is
not-refused b routes.Tick body refusal other is = tick-refused body refusal other is
not-refused b routes.Imports body refusal other is = import-never (import_of b body) refusal is

-- no head asks what bytes without one ask
asked-no-head : (b : Building) (route : RouteValue) (size : ℕ) (rest : List ℕ) → IsAsked b (route, size) rest (Refused NoHead) → ⊥
asked-no-head b route size rest (inl is) = not-refused b route (take size rest) NoHead (λ same. absurd (cc same)) is.1
asked-no-head b route size rest (inr is) = let same = is.1 in absurd (cc same)

by-fit : (fits : Bool) (b : Building) (route : RouteValue) (size : ℕ) (rest : List ℕ)
    → IsAskedBy b (if fits then Ok (route, size) else Err TooLong) rest (Refused NoHead) → ⊥
by-fit true b route size rest asks = asked-no-head b route size rest asks
by-fit false b route size rest asks = absurd (cc asks)

by-limit : (limit : Option ℕ) (b : Building) (route : RouteValue) (size : ℕ) (rest : List ℕ)
    → IsAskedBy b (with_limit limit route size) rest (Refused NoHead) → ⊥
by-limit None b route size rest asks = asked-no-head b route 0 rest asks
by-limit (Some limit) b route size rest asks = by-fit (nat_le size limit) b route size rest asks

by-length : (size : Option ℕ) (route : Option RouteValue) (b : Building) (rest : List ℕ)
    → IsAskedBy b (of_length size route) rest (Refused NoHead) → ⊥
by-length None route b rest asks = absurd (cc asks)
by-length (Some size) None b rest asks = absurd (cc asks)
by-length (Some size) (Some route) b rest asks = by-limit (limit_of route) b route size rest asks

no-head-asked : (b : Building) (head : RequestHead) (rest : List ℕ) → IsAskedBy b (route_asked head) rest (Refused NoHead) → ⊥
unfolding route_asked
no-head-asked b head rest asks = by-length (body_length_of head) (route_of head.method head.target) b rest asks

-- a head can come
begun-not-whole : (b : Building) (bytes : List ℕ) → HasNoHead bytes → MayBegin bytes → IsWhole b bytes → ⊥
begun-not-whole b bytes none (more, head, rest, is_head) whole =
    no-head-asked b head rest
    (asked-by_head b (bytes ++ more) rest (Refused NoHead) head is_head ((whole.steady (Refused NoHead) more).0 (inr (none, refl))))

-- the body lacks bytes
body-lacks : (b : Building) (asked : Result RouteAndLength Refusal) (rest more : List ℕ) → 0 < lacks_of asked (length rest)
    → length more ≡ lacks_of asked (length rest) → IsAskedBy b asked rest (Refused CutBody)
    × (IsAskedBy b asked (rest ++ more) (Refused CutBody) → ⊥)
body-lacks b (Err refusal) rest more lacks fills = absurd (omega arith)
body-lacks b (Ok (route, size)) rest more lacks fills = (inr (omega arith, refl), λ asks. by asks)
  where
    by : IsAsked b (route, size) (rest ++ more) (Refused CutBody) → ⊥
    by (inl is) = not-refused b route (take size (rest ++ more)) CutBody (λ same. absurd (cc same)) is.1
    by (inr is) = let short = is.0 in let longer = length-append rest more in absurd (omega arith)

cut-not-whole : (b : Building) (bytes rest : List ℕ) (head : RequestHead) → IsHead bytes head rest
    → 0 < lacks_of (route_asked head) (length rest) → IsWhole b bytes → ⊥
cut-not-whole b bytes rest head is lacks whole =
    let size = lacks_of (route_asked head) (length rest) in
    let more = replicate size 0 in
    let (cut, not-cut) = body-lacks b (route_asked head) rest more lacks (length-replicate size 0) in
    not-cut (asked-by_head b (bytes ++ more) (rest ++ more) (Refused CutBody) head (head-more bytes more rest head is)
    ((whole.steady (Refused CutBody) more).0 (of-head b bytes rest (Refused CutBody) head is cut)))

-- what was lacking has come, and no more was
enough : (asked : Result RouteAndLength Refusal) (rest more : List ℕ) (count : ℕ) → lacks_of asked (length rest) ≡ count
    → lacks_of asked (length (rest ++ more)) ≤ 0 → count ≤ length more
enough (Err refusal) rest more count lacks none = omega arith
enough (Ok (route, size)) rest more count lacks none = let longer = length-append rest more in omega arith

-- ---- what is waited for

lacks-none : (b : Building) (bytes : List ℕ) → IsWhole b bytes → Lacks b bytes 0
lacks-none b bytes whole = record { whole = (λ none. whole, λ is. refl); least = λ more is. omega arith }

-- of bytes that are not whole at least one more is waited for
lacks-one : (b : Building) (bytes : List ℕ) → (IsWhole b bytes → ⊥) → Lacks b bytes 1
lacks-one b bytes not-whole = record {
  whole = (λ none. absurd (omega arith), λ is. absurd (not-whole is));
  least = least;
}
  where
    least : (more : List ℕ) → IsWhole b (bytes ++ more) → 1 ≤ length more
    least [] is = absurd (not-whole (subst (IsWhole b) (append-nil bytes) is))
    least (x ∷ more) is = omega arith

pub empty-lacks : (b : Building) (bytes : List ℕ) → length bytes ≡ 0 → Lacks b bytes 1
empty-lacks b bytes empty = lacks-one b bytes (λ is. let some = is.some in absurd (omega arith))

pub refused-lacks : (b : Building) (k : ℕ) (bytes : List ℕ) → 0 < length (take k bytes) → 0 < length bytes
    → RequestOverflows 64 (take k bytes) → Lacks b bytes 0
refused-lacks b k bytes begun some over = lacks-none b bytes (refused-whole b k bytes begun some over)

pub full-lacks : (b : Building) (k : ℕ) (bytes : List ℕ) → length (take k bytes) ≡ 8_192 → 0 < length bytes
    → HasNoRequest (take k bytes) → Lacks b bytes 0
full-lacks b k bytes full some without = lacks-none b bytes (full-whole b k bytes full some without)

no-head : (bytes : List ℕ) → HasNoRequest bytes → HasNoHead bytes
no-head bytes none head rest is = none head rest is.reads

pub begun-lacks : (b : Building) (k : ℕ) (bytes : List ℕ) → length bytes ≤ k → HasNoRequest (take k bytes) → MayBegin (take k bytes)
    → Lacks b bytes 1
begun-lacks b k bytes all none may =
    let same = take_all k bytes all in
    lacks-one b bytes (begun-not-whole b bytes (no-head bytes (subst HasNoRequest same none)) (subst MayBegin same may))

pub ended-lacks : (b : Building) (k : ℕ) (bytes : List ℕ) → length bytes ≤ k → 0 < length bytes → HasNoRequest (take k bytes)
    → (MayBegin (take k bytes) → ⊥) → Lacks b bytes 0
ended-lacks b k bytes all some none never =
    let same = take_all k bytes all in
    lacks-none b bytes
    (none-whole b bytes some (λ more head rest is. never (subst MayBegin (sym same) (more, head, rest, is)))
    (no-head bytes (subst HasNoRequest same none)))

by-size : (b : Building) (bytes rest : List ℕ) (head : RequestHead) (count : ℕ) → 0 < length bytes → IsHead bytes head rest
    → lacks_of (route_asked head) (length rest) ≡ count → Lacks b bytes count
by-size b bytes rest head zero some is lacks = lacks-none b bytes (head-steady b bytes rest head some is lacks)
by-size b bytes rest head (suc count) some is lacks = record {
  whole = (λ none. absurd (omega arith), λ whole. absurd (cut-not-whole b bytes rest head is (omega arith) whole));
  least = least;
}
  where
    least : (more : List ℕ) → IsWhole b (bytes ++ more) → suc count ≤ length more
    least more whole = by (cases_lt 0 (lacks_of (route_asked head) (length (rest ++ more))))
      where
        by : (0 < lacks_of (route_asked head) (length (rest ++ more))) ⊎ (lacks_of (route_asked head) (length (rest ++ more)) ≤ 0)
            → suc count ≤ length more
        by (inl still) = absurd (cut-not-whole b (bytes ++ more) (rest ++ more) head (head-more bytes more rest head is) still whole)
        by (inr none) = enough (route_asked head) rest more (suc count) lacks none

pub head-lacks : (b : Building) (k : ℕ) (bytes : List ℕ) (headers : List HeaderSpan) (spans : RequestSpans) (count : ℕ)
    → 0 < length bytes → k ≤ 8_192 → length headers ≡ 64 → IsRequestWithin (take k bytes) headers spans
    → IsRequestOf (take k bytes) headers spans
    → ((head : RequestHead) → IsRequestAt (take k bytes) headers spans head
    → count ≡ lacks_of (route_asked head) (length bytes - spans.len))
    → Lacks b bytes count
head-lacks b k bytes headers spans count some fits room within is lacks =
    let (head, rest, is_head, parts, left) = found-head k bytes headers spans fits room within is in
    by-size b bytes rest head count some is_head
    (ap (λ n. lacks_of (route_asked head) n) (sym left) ∙ sym (lacks head parts))
