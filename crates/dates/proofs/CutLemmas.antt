-- Where a mark first stands in a text, and what std's searches answer.
use Rattle.std.proofs.Common.{◌≡◌, ℕ, ◌+◌, ◌<◌, ◌≤◌, Bool, true, false, not, ◌&&◌, cond, [], ◌∷◌, ◌++◌, length, nat_eq}
use Rattle.std.proofs.Common.{take, drop, Option, Some, None, option_map, MatchOption, Bor, refl, sym, ap, ◌∙◌, subst, add-one, arith}
use Rattle.std.specs.Cmp.{first_so, second_so}
use Rattle.std.specs.List.{starts_with}
use Rattle.std.specs.Str.Pattern.{LacksTextAt, FindsText, FindsTextPrefix, SplitsAroundMatch, StripsPrefix}
use Rattle.std.proofs.Math.Seq.{take-append_seam, drop-append_seam}
use Rattle.std.proofs.lemmas.Bool.{not-true}
use Rattle.std.proofs.lemmas.List.{take-append-drop}
use Rattle.std.proofs.lemmas.Slice.Eq.{bytes_eq-Decides}
use Rattle.std.specs.Cmp.Derive.{both_true}
use Rattle.dates.specs.Notation.{cut_at, without_prefix}
use Rattle.points.specs.Texts.{Text}

pub starts_with-append : (mark rest : Text) → starts_with nat_eq (mark ++ rest) mark ≡ true
starts_with-append mark rest =
    rw (take-append_seam mark rest) ((bytes_eq-Decides mark mark).1 refl)

pub append-starts_with : (text mark : Text) → starts_with nat_eq text mark ≡ true → text ≡ mark ++ drop (length mark) text
append-starts_with text mark e =
    let front : mark ≡ take (length mark) text = (bytes_eq-Decides mark (take (length mark) text)).0 e in
    sym (take-append-drop (length mark) text) ∙ ap (λ m. m ++ drop (length mark) text) (sym front)

-- a mark that does not stand at the start
starts_with-lacks : (text mark : Text) → LacksTextAt mark text 0 → starts_with nat_eq text mark ≡ false
starts_with-lacks text mark lacks = by_test (starts_with nat_eq text mark) refl
  where
    by_test : (b : Bool) → starts_with nat_eq text mark ≡ b → starts_with nat_eq text mark ≡ false
    by_test true e = absurd (lacks (drop (length mark) text) (append-starts_with text mark e))
    by_test false e = e

lacks_later : (mark : Text) (b : ℕ) (text : Text) (i : ℕ) → LacksTextAt mark (b ∷ text) (i + 1) → LacksTextAt mark text i
lacks_later mark b text i lacks = rw add-one at lacks

pub cut_at-append : (mark before after : Text) → 0 < length mark
    → ((i : ℕ) → i < length before → LacksTextAt mark (before ++ (mark ++ after)) i)
    → cut_at mark (before ++ (mark ++ after)) ≡ Some (before, after)
unfolding cut_at
cut_at-append [] [] after some lacks = absurd (omega arith)
cut_at-append (m ∷ ms) [] after some lacks =
    rw (starts_with-append (m ∷ ms) after, drop-append_seam (m ∷ ms) after)
cut_at-append mark (b ∷ before) after some lacks =
    let rest = before ++ (mark ++ after) in
    rw (
      starts_with-lacks (b ∷ rest) mark (lacks 0 (omega arith)),
      cut_at-append mark before after some (λ i h. lacks_later mark b rest i (lacks (i + 1) (omega arith))),
    )

pub cut_at-lacks : (mark text : Text) → ((i : ℕ) → i ≤ length text → LacksTextAt mark text i) → cut_at mark text ≡ None
unfolding cut_at
cut_at-lacks mark [] lacks = refl
cut_at-lacks mark (b ∷ text) lacks =
    rw (
      starts_with-lacks (b ∷ text) mark (lacks 0 (omega arith)),
      cut_at-lacks mark text (λ i h. lacks_later mark b text i (lacks (i + 1) (omega arith))),
    )

-- the text is cut into these two, if no mark stands earlier
abbrev IsCutInto : Text → Text → Text → Text → Type 0
IsCutInto mark before after text =
    ((i : ℕ) → i < length before → LacksTextAt mark text i) → cut_at mark text ≡ Some (before, after)

-- what `split_once` answers
pub cut_at-split : (mark text : Text) (r : Option (Bor Text × Bor Text)) → 0 < length mark
    → MatchOption r (FindsText mark text None) (λ x. SplitsAroundMatch (FindsText mark) text x.0.now x.1.now)
    → option_map (λ cut. (cut.0.now, cut.1.now)) r ≡ cut_at mark text
cut_at-split mark text None some found = sym (cut_at-lacks mark text found)
cut_at-split mark text (Some x) some found =
    let i = found.0 in
    let first = found.2.0 in
    let split = found.2.1.split in
    let front = found.3 in
    let back = found.4 in
    let whole : x.0.now ++ (mark ++ x.1.now) ≡ text = rw (front, back, ← split) (take-append-drop i text) in
    let len : length x.0.now ≡ i = found.6 in
    sym (subst (IsCutInto mark x.0.now x.1.now) whole (cut_at-append mark x.0.now x.1.now some)
    (λ k h. first k (omega arith)))

-- what `strip_prefix` answers
pub without_prefix-strip : (mark text : Text) (r : Option (Bor Text))
    → MatchOption r (FindsTextPrefix mark text None) (λ x. StripsPrefix (FindsTextPrefix mark) text x.now)
    → option_map (λ rest. rest.now) r ≡ without_prefix mark text
unfolding without_prefix
without_prefix-strip mark text None lacks = rw (starts_with-lacks text mark lacks)
without_prefix-strip mark text (Some x) strips =
    let width = strips.1.0 in
    let whole : text ≡ mark ++ drop (length mark) text = rw width at strips.1.1 in
    let starts : starts_with nat_eq text mark ≡ true =
    subst (λ (s : Text). starts_with nat_eq s mark ≡ true) (sym whole) (starts_with-append mark (drop (length mark) text)) in
    rw (starts, strips.2, width)

-- no byte of the text is c
abbrev pub lacks : ℕ → Text → Bool
lacks c [] = true
lacks c (b ∷ text) = not (nat_eq c b) && lacks c text

pub lacks-append : (c : ℕ) (a b : Text) → lacks c a ≡ true → lacks c b ≡ true → lacks c (a ++ b) ≡ true
lacks-append c [] b ha hb = hb
lacks-append c (x ∷ a) b ha hb =
    both_true (first_so _ _ ha) (lacks-append c a b (second_so _ _ ha) hb)

-- a text that begins with another byte does not begin with the mark
pub starts_with-other : (c x : ℕ) (ms xs : Text) → not (nat_eq c x) ≡ true → starts_with nat_eq (x ∷ xs) (c ∷ ms) ≡ false
starts_with-other c x ms xs other = rw (not-true (nat_eq c x) other) refl

-- what cuts a text whose front has no byte as the mark's first
pub cut_at-lacking : (c : ℕ) (ms before after : Text) → lacks c before ≡ true
    → cut_at (c ∷ ms) (before ++ ((c ∷ ms) ++ after)) ≡ Some (before, after)
unfolding cut_at
cut_at-lacking c ms [] after other =
    rw (starts_with-append (c ∷ ms) after, drop-append_seam (c ∷ ms) after)
cut_at-lacking c ms (b ∷ before) after other =
    let rest = before ++ ((c ∷ ms) ++ after) in
    let apart : not (nat_eq c b) ≡ true = first_so (not (nat_eq c b)) (lacks c before) other in
    let later : lacks c before ≡ true = second_so (not (nat_eq c b)) (lacks c before) other in
    rw (starts_with-other c b ms rest apart, cut_at-lacking c ms before after later)

pub cut_at-absent : (c : ℕ) (ms text : Text) → lacks c text ≡ true → cut_at (c ∷ ms) text ≡ None
unfolding cut_at
cut_at-absent c ms [] other = refl
cut_at-absent c ms (b ∷ text) other =
    let apart : not (nat_eq c b) ≡ true = first_so (not (nat_eq c b)) (lacks c text) other in
    let later : lacks c text ≡ true = second_so (not (nat_eq c b)) (lacks c text) other in
    rw (starts_with-other c b ms text apart, cut_at-absent c ms text later)

-- a cut of what follows a byte is a cut of the whole
abbrev after_byte : ℕ → Option (Text × Text) → Option (Text × Text)
after_byte b r = option_map (λ cut. (b ∷ cut.0, cut.1)) r

abbrev joined : Text → Text × Text → Text
joined mark cut = cut.0 ++ (mark ++ cut.1)

joined-same : (mark : Text) (p q : Text × Text) → Some p ≡ Some q → joined mark p ≡ joined mark q
joined-same mark p q e = let same : p ≡ q = cc in ap (joined mark) same

cut_later : (mark text before after : Text) (b : ℕ) (r : Option (Text × Text))
    → ((x y : Text) → r ≡ Some (x, y) → text ≡ x ++ (mark ++ y)) → after_byte b r ≡ Some (before, after)
    → b ∷ text ≡ before ++ (mark ++ after)
cut_later mark text before after b None whole e = cc
cut_later mark text before after b (Some cut) whole e =
    let rest = whole cut.0 cut.1 refl in
    ap (λ t. b ∷ t) rest ∙ joined-same mark (b ∷ cut.0, cut.1) (before, after) e

-- a cut text is what stands before the mark, the mark and what stands after it
pub cut_at-some : (mark text before after : Text) → cut_at mark text ≡ Some (before, after) → text ≡ before ++ (mark ++ after)
unfolding cut_at
cut_at-some mark [] before after e = cc
cut_at-some mark (b ∷ text) before after e =
    by_test (starts_with nat_eq (b ∷ text) mark) refl e (cut_at-some mark text)
  where
    by_test : (test : Bool) → starts_with nat_eq (b ∷ text) mark ≡ test
        → cond {A = Option (Text × Text)} test (Some ([], drop (length mark) (b ∷ text))) (after_byte b (cut_at mark text))
        ≡ Some (before, after)
        → ((x y : Text) → cut_at mark text ≡ Some (x, y) → text ≡ x ++ (mark ++ y)) → b ∷ text ≡ before ++ (mark ++ after)
    by_test true is e whole =
        append-starts_with (b ∷ text) mark is
        ∙ joined-same mark ([], drop (length mark) (b ∷ text)) (before, after) e
    by_test false is e whole = cut_later mark text before after b (cut_at mark text) whole e
