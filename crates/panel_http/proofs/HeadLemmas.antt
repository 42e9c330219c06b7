-- What a beginning of an input tells of its head.
use Rattle.std.proofs.Common.{◌≡◌, ◌≤◌, ℕ, List, ◌++◌, length, take, drop, arith, sym, ap, ◌∙◌, length-take}
use Rattle.std.proofs.KnownBytes.{starts_with_rest}
use Rattle.std.proofs.lemmas.List.{length-map}
use lib.ListN.{take-append-drop}
use lib.Seq.{take-append-le, take-append_seam}
use Rattle.httparse.specs.Grammar.{HasNoRequest, ReadsRequest, RequestHead, print_request}
use Rattle.httparse.specs.Spans.{IsRequestAt, IsRequestOf, IsRequestWithin, RequestOverflows, header_bytes, name_and_value}
use Rattle.httparse.specs.declared.spans.HeaderSpan.{HeaderSpan}
use Rattle.httparse.specs.declared.spans.RequestSpans.{RequestSpans}
use Rattle.httparse.proofs.GrammarLemmas.{ReadsRequest-append}
use Rattle.panel_http.specs.Heads.{HasNoHead, IsHead}

-- a text that begins in two ways begins with the shorter one
pub shorter_start : (front rest start more : List ℕ) → front ++ rest ≡ start ++ more → length start ≤ length front
    → front ≡ start ++ drop (length start) front
shorter_start front rest start more same short =
    starts_with_rest front start (sym (take-append-le (length start) front rest short) ∙ ap (take (length start)) same
    ∙ take-append_seam start more)

-- the head that the parser found lies in the front
head_is_short : (k : ℕ) (bytes : List ℕ) (headers : List HeaderSpan) (spans : RequestSpans) (head : RequestHead) → k ≤ 8_192
    → IsRequestWithin (take k bytes) headers spans → IsRequestAt (take k bytes) headers spans head
    → length (print_request head) ≤ 8_192
head_is_short k bytes headers spans head fits within parts =
    let ends = parts.len in
    let inside = within.section.len_fits in
    let read = length-take k bytes in
    omega arith

-- it has no more fields than there are places
fields_are_few : (front : List ℕ) (headers : List HeaderSpan) (spans : RequestSpans) (head : RequestHead) → length headers ≡ 64
    → IsRequestAt front headers spans head → length head.fields ≤ 64
fields_are_few front headers spans head room parts =
    let written = take spans.headers headers in
    let as_many = sym (length-map written (header_bytes front)) ∙ ap length parts.fields ∙ length-map head.fields name_and_value in
    let places = length-take spans.headers headers in
    omega arith

-- the head that the parser found in the first bytes
pub head_in : (k : ℕ) (bytes : List ℕ) (headers : List HeaderSpan) (spans : RequestSpans) → k ≤ 8_192 → length headers ≡ 64
    → IsRequestWithin (take k bytes) headers spans → IsRequestOf (take k bytes) headers spans
    → (head : RequestHead) × (rest : List ℕ) × IsHead bytes head rest × IsRequestAt (take k bytes) headers spans head
head_in k bytes headers spans fits room within (head, parts) =
    let front = take k bytes in
    let left = drop spans.len front ++ drop k bytes in
    let read : ReadsRequest (front ++ drop k bytes) head left = ReadsRequest-append front head _ (drop k bytes) parts.reads in (
      head,
      left,
      record {
        reads = (read.0, sym (take-append-drop k bytes) ∙ read.1);
        short = head_is_short k bytes headers spans head fits within parts;
        few = fields_are_few front headers spans head room parts;
      },
      parts,
    )

-- the front can't become a head of so few fields
pub overflow_has_none : (front rest bytes : List ℕ) → bytes ≡ front ++ rest → RequestOverflows 64 front → HasNoHead bytes
overflow_has_none front rest bytes same over = λ head more found.
    let many = over rest head more (found.reads.0, sym same ∙ found.reads.1) in
    let few = found.few in
    absurd (omega arith)

-- the front is as long as a head may be
pub full_has_none : (front rest bytes : List ℕ) → bytes ≡ front ++ rest → length front ≡ 8_192 → HasNoRequest front
    → HasNoHead bytes
full_has_none front rest bytes same full none = λ head more found.
    let start = print_request head in
    let short : length start ≤ length front = let s = found.short in omega arith in
    none head _ (found.reads.0, shorter_start front rest start more (sym same ∙ found.reads.1) short)
