-- The lines of a list, one after another.
use Rattle.std.proofs.Common.{◌≡◌, ℕ, ℤ, suc, ◌-◌, ◌<◌, ◌==◌, ◌&&◌, ◌++◌, Bool, true, false, List, [], ◌∷◌}
use Rattle.std.proofs.Common.{length, take, get_or, Option, Some, None, IfSome, option_map, option_and_then}
use Rattle.std.proofs.Common.{append_assoc, cond, lt-ltb, refl, sym, ap, subst, ◌∙◌, arith}
use Rattle.std.proofs.lemmas.Option.{same_Some}
use Rattle.std.specs.Io.KnownBytes.{IsAtEnd}
use Rattle.std.specs.Io.BufRead.{DropsThrough, drop_through, strip_last, take_through}
use Rattle.building.specs.Building.{Building}
use Rattle.delivery_json.specs.declared.parsed_line.ParsedLine.{ParsedLine}
use Rattle.delivery_json.specs.declared.parsed_line.ParsedLine.TheVariants as of
use Rattle.delivery_json.specs.DeliveryLine.{parse_line}
use Rattle.desk_cli.specs.ListLines.{TakesLine}
use Rattle.desk_cli.specs.Replay.{deliveries_in, is_empty_line, is_past_until, lines_of, lines_until, parsed_by, with_first}
use Rattle.std.proofs.lemmas.Bool.{false≢true}

-- ---- what lines tell, one part after another

pub deliveries_in-append : (ts us : List ParsedLine) → deliveries_in (ts ++ us) ≡ deliveries_in ts ++ deliveries_in us
deliveries_in-append [] us = refl
deliveries_in-append (of.Delivery d ∷ ts) us = ap (λ ds. d ∷ ds) (deliveries_in-append ts us)
deliveries_in-append (of.RefusedImport refused ∷ ts) us = deliveries_in-append ts us

pub parsed_by-append : (b : Building) (ls ms : List (List ℕ)) (ds es : List ParsedLine) → parsed_by b ls ≡ Some ds → parsed_by b ms ≡ Some es
    → parsed_by b (ls ++ ms) ≡ Some (ds ++ es)
parsed_by-append b [] ms ds es p q = q ∙ ap (λ (ts : List ParsedLine). Some (ts ++ es)) (same_Some _ _ p)
parsed_by-append b (l ∷ ls) ms ds es p q =
    step (is_empty_line l) (parse_line b l) (parsed_by b ls) (parsed_by b (ls ++ ms)) p (λ ts e. parsed_by-append b ls ms ts es e q)
  where
    step : (empty : Bool) (one : Option ParsedLine) (rest all : Option (List ParsedLine))
        → cond empty rest (option_and_then (λ d. option_map (λ ts. d ∷ ts) rest) one) ≡ Some ds
        → ((ts : List ParsedLine) → rest ≡ Some ts → all ≡ Some (ts ++ es))
        → cond empty all (option_and_then (λ d. option_map (λ ts. d ∷ ts) all) one) ≡ Some (ds ++ es)
    step true one rest all e ih = ih ds e
    step false None rest all e ih = cc
    step false (Some d) None all e ih = cc
    step false (Some d) (Some ts) all e ih = rw (ih ts refl) (ap (λ (xs : List ParsedLine). Some (xs ++ es)) (same_Some _ _ e))

-- ---- the lines up to a moment

pub until-none : (b : Building) (until : Option ℤ) → lines_until b until [] ≡ []
until-none b None = refl
until-none b (Some until) = refl

pub until-past : (b : Building) (until : Option ℤ) (line : List ℕ) (lines : List (List ℕ)) → is_past_until b until line ≡ true
    → lines_until b until (line ∷ lines) ≡ []
until-past b None line lines past = absurd (false≢true past)
until-past b (Some until) line lines past = rw past refl

pub until-within : (b : Building) (until : Option ℤ) (line : List ℕ) (lines : List (List ℕ)) → is_past_until b until line ≡ false
    → lines_until b until (line ∷ lines) ≡ line ∷ lines_until b until lines
until-within b None line lines within = refl
until-within b (Some until) line lines within = rw within refl

-- ---- the next line

under_cons : (b : Bool) (x : ℕ) (xs ys : List ℕ) → cond b (x ∷ xs) (x ∷ ys) ≡ x ∷ cond b xs ys
under_cons true x xs ys = refl
under_cons false x xs ys = refl

cut_cons : (x : ℕ) (ws : List ℕ) (k j : ℕ) → k ≡ suc j
    → cond (get_or (x ∷ ws) k 0 == 10) (take k (x ∷ ws)) (x ∷ ws) ≡ x ∷ cond (get_or ws j 0 == 10) (take j ws) ws
cut_cons x ws k j e =
    let P : ℕ → Type 0 = λ n. cond (get_or (x ∷ ws) n 0 == 10) (take n (x ∷ ws)) (x ∷ ws) ≡ x ∷ cond (get_or ws j 0 == 10) (take j ws) ws in
    subst P (sym e) (under_cons (get_or ws j 0 == 10) x (take j ws) ws)

strip_last-some : (xs : List ℕ) → 0 < length xs → strip_last 10 xs ≡ cond (get_or xs (length xs - 1) 0 == 10) (take (length xs - 1) xs) xs
strip_last-some xs h = ap (λ b. cond (b && (get_or xs (length xs - 1) 0 == 10)) (take (length xs - 1) xs) xs) (lt-ltb 0 (length xs) h)

strip_last-cons : (x : ℕ) (ws : List ℕ) → 0 < length ws → strip_last 10 (x ∷ ws) ≡ x ∷ strip_last 10 ws
strip_last-cons x [] h = absurd (omega arith)
strip_last-cons x (w ∷ ws) h =
    strip_last-some (x ∷ w ∷ ws) (omega arith) ∙ cut_cons x (w ∷ ws) (suc (suc (length ws)) - 1) (suc (length ws) - 1) (omega arith)
    ∙ ap (λ l. x ∷ l) (sym (strip_last-some (w ∷ ws) (omega arith)))

strip_last-one : (x : ℕ) (b : Bool) → (x == 10) ≡ b → strip_last 10 (x ∷ []) ≡ cond b [] (x ∷ [])
strip_last-one x b e = ap (λ t. cond t [] (x ∷ [])) e

some_taken : (y : ℕ) (ys : List ℕ) → 0 < length (take_through 10 (y ∷ ys))
some_taken y ys =
    elim (y == 10) as (λ b. 0 < length (cond b (y ∷ []) (y ∷ take_through 10 ys))) [ true ↦ omega arith | false ↦ omega arith ]

next_line : (x : ℕ) (xs : List ℕ) → lines_of (x ∷ xs) ≡ strip_last 10 (take_through 10 (x ∷ xs)) ∷ lines_of (drop_through 10 (x ∷ xs))
next_line x [] =
    elim (x == 10) as (λ b. (x == 10) ≡ b
    → lines_of (x ∷ []) ≡ strip_last 10 (take_through 10 (x ∷ [])) ∷ lines_of (drop_through 10 (x ∷ []))) [
      | true ↦ λ e. rw e (ap (λ l. l ∷ []) (sym (strip_last-one x true e)))
      | false ↦ λ e. rw e (ap (λ l. l ∷ []) (sym (strip_last-one x false e)))
    ] refl
next_line x (y ∷ ys) = elim (x == 10) as (λ b. (x == 10) ≡ b → lines_of (x ∷ y ∷ ys) ≡ strip_last 10 (take_through 10 (x ∷ y ∷ ys))
    ∷ lines_of (drop_through 10 (x ∷ y ∷ ys))) [
      | true ↦ λ e. rw e (ap (λ l. l ∷ lines_of (y ∷ ys)) (sym (strip_last-one x true e)))
      | false ↦ λ e. rw e (ap (with_first x) (next_line y ys) ∙ ap (λ l. l ∷ lines_of (drop_through 10 (y ∷ ys)))
          (sym (strip_last-cons x (take_through 10 (y ∷ ys)) (some_taken y ys))))
    ] refl

lines_of-next : (xs : List ℕ) → 0 < length (take_through 10 xs)
    → lines_of xs ≡ strip_last 10 (take_through 10 xs) ∷ lines_of (drop_through 10 xs)
lines_of-next [] h = absurd (omega arith)
lines_of-next (x ∷ xs) h = next_line x xs

-- ---- a line that is read

-- up to its LF, which was taken off
pub takes_line : (left after : Option (List ℕ)) (bytes line kept : List ℕ) → left ≡ Some bytes
    → IfSome left (λ xs. line ≡ take_through 10 xs) → DropsThrough left after 10 → 0 < length line → kept ≡ strip_last 10 line
    → TakesLine bytes true kept after
takes_line left after bytes line kept left_is reads drops some kept_is =
    let line_is : line ≡ take_through 10 bytes = subst (λ o. IfSome o (λ xs. line ≡ take_through 10 xs)) left_is reads in
    let after_is : after ≡ Some (drop_through 10 bytes) = subst (λ o. DropsThrough o after 10) left_is drops in
    let stripped : strip_last 10 (take_through 10 bytes) ≡ kept = ap (strip_last 10) (sym line_is) ∙ sym kept_is in (
      drop_through 10 bytes,
      after_is,
      lines_of-next bytes (subst (λ l. 0 < length l) line_is some) ∙ ap (λ l. l ∷ lines_of (drop_through 10 bytes)) stripped,
    )

-- or the end
pub takes_none : (left after : Option (List ℕ)) (bytes line : List ℕ) → left ≡ Some bytes → IsAtEnd left
    → TakesLine bytes false line after
takes_none left after bytes line left_is end =
    let at_end : bytes ≡ [] = subst IsAtEnd left_is end in
    ap lines_of at_end

-- the lines so far with one more, and those of the rest
pub lines-more : (b : Building) (until : Option ℤ) (bytes line : List ℕ) (passed : List (List ℕ)) (rest next : List ℕ)
    → lines_until b until (lines_of bytes) ≡ passed ++ lines_until b until (lines_of rest) → lines_of rest ≡ line ∷ lines_of next
    → is_past_until b until line ≡ false
    → lines_until b until (lines_of bytes) ≡ (passed ++ line ∷ []) ++ lines_until b until (lines_of next)
lines-more b until bytes line passed rest next are takes within =
    are ∙ ap (λ ls. passed ++ ls) (ap (lines_until b until) takes ∙ until-within b until line (lines_of next) within)
    ∙ sym (append_assoc passed (line ∷ []) (lines_until b until (lines_of next)))
