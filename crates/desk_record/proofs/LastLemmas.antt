-- The last line of bytes, and of a file that they end.
use Rattle.std.proofs.Common.{◌≡◌, ℕ, ◌+◌, List, ◌∷◌, ◌++◌, length, take, drop, ◌-◌, Some, None, refl, sym, ap, ◌∙◌, subst, append_assoc, arith, inl, inr, length-append, []}
use Rattle.std.proofs.lemmas.List.{append-nil, length-drop, take_all}
use Rattle.std.specs.Bool.{IsTrue}
use Rattle.std.proofs.Math.Seq.{drop-append_seam, take-append_seam}
use Rattle.building.specs.Building.{Building}
use Rattle.deliveries.specs.declared.delivery.Delivery.{Delivery}
use Rattle.delivery_json.specs.declared.parsed_line.ParsedLine.TheVariants as parsed
use Rattle.delivery_json.specs.DeliveryLine.{parse_line}
use Rattle.desk_record.specs.declared.last_line.LastLine.{LastLine}
use Rattle.desk_record.specs.LastLine.{HasLastLine, IsWholeBehind, TellsLast}
use Rattle.delivery_json.specs.LineEnds.{IsLastEnd, IsLine}
use Rattle.desk_record.specs.Lines.{IsWhole}
use Rattle.desk_record.specs.Torn.{may_be_torn}

-- what stands before the last line end
front-of : (bytes before after : List ℕ) (end : ℕ) → bytes ≡ before ++ 10 ∷ after → length before ≡ end → take end bytes ≡ before
front-of bytes before after end is size =
    ap (λ n. take n bytes) (sym size) ∙ ap (take (length before)) is ∙ take-append_seam before (10 ∷ after)

pub last-of : (from : ℕ) (bytes part : List ℕ) (end place : ℕ) → part ≡ take end bytes → IsLastEnd (Some end) bytes
    → IsLastEnd (Some place) part → HasLastLine from bytes (Some (record { start = place + 1; end = end }))
last-of from bytes part end place same (before, after, is, size, none) (first, line, is_part, at, one) =
    let split : before ≡ first ++ 10 ∷ line = sym (front-of bytes before after end is size) ∙ sym same ∙ is_part in
    let ended : first ++ 10 ∷ line ≡ (first ++ 10 ∷ []) ++ line = sym (append_assoc first (10 ∷ []) line) in (
      first ++ 10 ∷ [],
      line,
      after,
      is ∙ ap (λ front. front ++ 10 ∷ after) (split ∙ ended) ∙ append_assoc (first ++ 10 ∷ []) line (10 ∷ after),
      length-append first (10 ∷ []) ∙ ap (λ n. n + 1) at,
      ap length (sym ended) ∙ ap length (sym split) ∙ size,
      inr (first, refl),
      one,
      none,
    )

pub first-of : (from : ℕ) (bytes part : List ℕ) (end : ℕ) → from ≡ 0 → part ≡ take end bytes → IsLastEnd (Some end) bytes
    → IsLastEnd None part → HasLastLine from bytes (Some (record { start = 0; end = end }))
first-of from bytes part end start same (before, after, is, size, none) one =
    ([], before, after, is, refl, size, inl (start, refl), subst IsLine (same ∙ front-of bytes before after end is size) one, none)

-- ---- in the whole file

empty-of : (front : List ℕ) → length front ≡ 0 → front ≡ []
empty-of [] size = refl
empty-of (byte ∷ front) size = absurd (omega (arith, size))

IsWhole-behind : (from : ℕ) (front before : List ℕ) → length front ≡ from → IsWholeBehind from before → IsWhole (front ++ before)
IsWhole-behind from front before size (inl (start, none)) =
    inl (ap (λ rest. front ++ rest) none ∙ append-nil front ∙ empty-of front (size ∙ start))
IsWhole-behind from front before size (inr (first, ended)) =
    inr (front ++ first, ap (λ rest. front ++ rest) ended ∙ sym (append_assoc front first (10 ∷ [])))

line-of : (bytes before line after : List ℕ) (start end : ℕ) → bytes ≡ before ++ (line ++ 10 ∷ after) → length before ≡ start
    → length (before ++ line) ≡ end → take (end - start) (drop start bytes) ≡ line
line-of bytes before line after start end is from to =
    let sum : end ≡ start + length line = sym to ∙ length-append before line ∙ ap (λ n. n + length line) from in
    let size : end - start ≡ length line = omega (arith, sum) in
    let rest : drop start bytes ≡ line ++ 10 ∷ after =
    ap (λ n. drop n bytes) (sym from) ∙ ap (drop (length before)) is ∙ drop-append_seam before (line ++ 10 ∷ after) in
    ap (λ n. take n (drop start bytes)) size ∙ ap (take (length line)) rest ∙ take-append_seam line (10 ∷ after)

-- what stands after the last line
after-of : (bytes before line after : List ℕ) (end : ℕ) → bytes ≡ before ++ (line ++ 10 ∷ after) → length (before ++ line) ≡ end
    → take (length bytes - (end + 1)) (drop (end + 1) bytes) ≡ after
after-of bytes before line after end is size =
    let front = (before ++ line) ++ 10 ∷ [] in
    let split : bytes ≡ front ++ after =
    is ∙ sym (append_assoc before line (10 ∷ after)) ∙ sym (append_assoc (before ++ line) (10 ∷ []) after) in
    let sized : length front ≡ end + 1 = length-append (before ++ line) (10 ∷ []) ∙ ap (λ n. n + 1) size in
    take_all (length bytes - (end + 1)) (drop (end + 1) bytes) (omega (arith, length-drop (end + 1) bytes))
    ∙ ap (λ n. drop n bytes) (sym sized) ∙ ap (drop (length front)) split ∙ drop-append_seam front after

pub tells-last : (b : Building) (d : Delivery) (from : ℕ) (bytes : List ℕ) (last : LastLine) → HasLastLine from bytes (Some last)
    → IsTrue (may_be_torn (take (length bytes - (last.end + 1)) (drop (last.end + 1) bytes)))
    → parse_line b (take (last.end - last.start) (drop last.start bytes)) ≡ Some (parsed.Delivery d)
    → (file front : List ℕ) → file ≡ front ++ bytes → length front ≡ from → TellsLast b file (from + last.end + 1) (Some d)
tells-last b d from bytes last (before, line, after, is, start, end, whole, one, none) torn tells file front joined size =
    let same = line-of bytes before line after last.start last.end is start end in (
      front ++ before,
      line,
      after,
      joined ∙ ap (λ rest. front ++ rest) is ∙ sym (append_assoc front before (line ++ 10 ∷ after)),
      sized,
      IsWhole-behind from front before size whole,
      record { one = one; tells = subst (λ text. parse_line b text ≡ Some (parsed.Delivery d)) same tells },
      (none, subst (λ rest. IsTrue (may_be_torn rest)) (after-of bytes before line after last.end is end) torn),
    )
  where
    sized : length ((front ++ before) ++ (line ++ 10 ∷ [])) ≡ from + last.end + 1
    sized = simp length-append (omega (arith, size, end, length-append before line))
