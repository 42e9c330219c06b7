-- What a whole input asks is what its head asks, or it has none.
use Rattle.std.proofs.Common.{◌≡◌, ◌∙◌, ◌≤◌, inl, ℕ, List, ◌++◌, length, take, drop, drop_at, arith, sym, ap, subst, length-append, length-take, min, Result, Ok, Err, IfOk}
use lib.ListN.{take-append-drop}
use Rattle.building.specs.Building.{Building}
use Rattle.httparse.specs.Grammar.{HasNoRequest, RequestHead, print_request}
use Rattle.httparse.specs.Spans.{IsRequestAt, IsRequestOf, IsRequestWithin, RequestOverflows}
use Rattle.httparse.specs.declared.spans.HeaderSpan.{HeaderSpan}
use Rattle.httparse.specs.declared.spans.RequestSpans.{RequestSpans}
use Rattle.panel_http.specs.AskedRoute.{route_asked}
use Rattle.panel_http.specs.Heads.{HasNoHead, IsHead}
use Rattle.panel_http.specs.Requests.{IsAskedBy, IsRequest}
use Rattle.panel_http.specs.declared.request.Request.{Request}
use Rattle.panel_http.proofs.HeadLemmas.{overflow_has_none, shorter_start}
use Rattle.panel_http.proofs.WholeLemmas.{found-head}

-- a beginning has too many fields, and the input begins with it
pub overflowing-none : (k : ℕ) (input : List ℕ) → RequestOverflows 64 (take k input) → HasNoHead input
overflowing-none k input over = overflow_has_none (take k input) (drop k input) input (sym (take-append-drop k input)) over

-- no head ends in the input's beginning, which is all of it or as long as a head may be
pub unfinished-none : (k : ℕ) (input : List ℕ) → k ≡ min (length input) 8_192 → HasNoRequest (take k input) → HasNoHead input
unfinished-none k input least none = λ head more found.
    let front = take k input in
    let start = print_request head in
    let same : front ++ drop k input ≡ start ++ more = take-append-drop k input ∙ found.reads.1 in
    let sized = ap length found.reads.1 ∙ length-append start more in
    let begun = length-take k input in
    let limit = found.short in
    let short : length start ≤ length front = omega arith in
    none head _ (found.reads.0, shorter_start front (drop k input) start more same short)

asked-by : (E : Type 0) (b : Building) (input rest : List ℕ) (head : RequestHead) (reported : Result Request E)
    → IsHead input head rest → IfOk reported (IsAskedBy b (route_asked head) rest) → IfOk reported (IsRequest b input)
asked-by E b input rest head (Ok request) is asks = inl (record { head = head; after = rest; is_head = is; asks = asks })
asked-by E b input rest head (Err error) is asks = tt

-- what the head asks that the parser found, with all that comes after it
pub head-asks : (E : Type 0) (b : Building) (k : ℕ) (input : List ℕ) (headers : List HeaderSpan) (spans : RequestSpans)
    (reported : Result Request E) → k ≤ 8_192 → length headers ≡ 64 → IsRequestWithin (take k input) headers spans
    → IsRequestOf (take k input) headers spans
    → ((head : RequestHead) → IsRequestAt (take k input) headers spans head
    → IfOk reported (IsAskedBy b (route_asked head) (drop spans.len input)))
    → IfOk reported (IsRequest b input)
head-asks E b k input headers spans reported fits room within is asks =
    let (head, rest, is_head, parts, left) = found-head k input headers spans fits room within is in
    let start = print_request head in
    let ends : length start ≡ spans.len = sym parts.len in
    let after : drop spans.len input ≡ rest = ap (drop spans.len) is_head.reads.1 ∙ drop_at start rest spans.len ends in
    asked-by E b input rest head reported is_head
    (subst (λ l. IfOk reported (IsAskedBy b (route_asked head) l)) after (asks head parts))
