-- What can follow a beginning of a section of fields, so that it is one: one of few short texts.
use Rattle.std.proofs.Common.{Bool, ◌≡◌, ◌∙◌, ◌<◌, ◌≤◌, ◌+◌, ◌⊎◌, inl, inr, ℕ, List, [], ◌∷◌, ◌++◌, length, refl, arith, sym, ap, ap₂, subst, append_assoc, append-nil, length-append, codes}
use Rattle.std.specs.List.{All, flat_map}
use Rattle.std.proofs.lemmas.List.Elements.{All-nil, All-cons, All-head, All-tail, All-take}
use lib.Seq.{take-append_seam}
use Rattle.std.specs.Bool.{IsTrue}
use Rattle.httparse.specs.Grammar.{AllPass, Field, IsField, LineEnd, is_token_byte, is_value_byte, crlf, lf, print_end, print_field, print_section}
use Rattle.panel_http.specs.Endings.{IsEnding}

-- ---- a text that is cut in two, and falls into two parts

abbrev pub Inside : List ℕ → List ℕ → List ℕ → List ℕ → Type 0
Inside s m a b = (left : List ℕ) × (s ++ left ≡ a) × (m ≡ left ++ b)

abbrev pub Past : List ℕ → List ℕ → List ℕ → List ℕ → Type 0
Past s m a b = (more : List ℕ) × (s ≡ a ++ more) × (more ++ m ≡ b)

cut-cons : (x y : ℕ) (s m a b : List ℕ) → x ≡ y → Inside s m a b ⊎ Past s m a b
    → Inside (x ∷ s) m (y ∷ a) b ⊎ Past (x ∷ s) m (y ∷ a) b
cut-cons x y s m a b same (inl (left, is, rest)) = inl (left, ap₂ (λ h t. h ∷ t) same is, rest)
cut-cons x y s m a b same (inr (more, is, rest)) = inr (more, ap₂ (λ h t. h ∷ t) same is, rest)

pub cut : (s m a b : List ℕ) → s ++ m ≡ a ++ b → Inside s m a b ⊎ Past s m a b
cut [] m a b same = inl (a, refl, same)
cut (x ∷ s) m [] b same = inr (x ∷ s, refl, same)
cut (x ∷ s) m (y ∷ a) b same = cut-cons x y s m a b (cc same) (cut s m a b (cc same))

-- what each byte of a text passes, each of its beginning passes
pub pass-start : (test : ℕ → Bool) (s left whole : List ℕ) → s ++ left ≡ whole → AllPass test whole → AllPass test s
pass-start test s left whole is all =
    subst (AllPass test) (take-append_seam s left)
    (All-take (λ b. IsTrue (test b)) (length s) (s ++ left) (subst (AllPass test) (sym is) all))

pass-none : (test : ℕ → Bool) → AllPass test []
pass-none test = All-nil (λ b. IsTrue (test b))

-- ---- line ends

pub end-long : (end : LineEnd) → 1 ≤ length (print_end end)
end-long crlf = omega arith
end-long lf = omega arith

pub newline : (end : LineEnd) (s m : List ℕ) → s ++ m ≡ print_end end → 0 < length m
    → (other : LineEnd) × (s ++ 10 ∷ [] ≡ print_end other)
newline lf [] m same some = (lf, refl)
newline lf (x ∷ s) m same some = let size = ap length same in let sum = length-append s m in absurd (omega arith)
newline crlf [] m same some = (lf, refl)
newline crlf (x ∷ []) m same some = let is : x ≡ 13 = cc same in (crlf, ap (λ h. h ∷ 10 ∷ []) is)
newline crlf (x ∷ y ∷ s) m same some = let size = ap length same in let sum = length-append s m in absurd (omega arith)

-- ---- fields

-- the bytes of a field, from its name on
field-text : (f : Field) → print_field f ≡ f.name ++ (58 ∷ (f.raw ++ print_end f.end))
field-text f = append_assoc f.name (58 ∷ f.raw) (print_end f.end)

pub record SectionEnds (s m : List ℕ) (fields : List Field) : Type 0 where
  pub ending : List ℕ
  pub is_ending : IsEnding ending
  pub with_fields : List Field
  pub last : LineEnd
  pub valid : All IsField with_fields
  pub reads : s ++ ending ≡ print_section with_fields last
  pub short : length ending ≤ length m
  pub few : length with_fields ≤ length fields

-- after the field that is begun, or instead of one
with-field : (s tail m : List ℕ) (fields : List Field) (field : Field) → IsField field
    → s ++ tail ≡ field.name ++ (58 ∷ (field.raw ++ print_end field.end))
    → IsEnding (tail ++ 10 ∷ []) → length tail + 1 ≤ length m → 1 ≤ length fields → SectionEnds s m fields
with-field s tail m fields field valid reads is fits some =
    let sum = length-append tail (10 ∷ []) in
    record {
      ending = tail ++ 10 ∷ [];
      is_ending = is;
      with_fields = field ∷ [];
      last = lf;
      valid = All-cons IsField field [] valid (All-nil IsField);
      reads = sym (append_assoc s tail (10 ∷ [])) ∙ ap (λ l. l ++ 10 ∷ []) (reads ∙ sym (field-text field))
          ∙ ap (λ l. l ++ 10 ∷ []) (sym (append-nil (print_field field)));
      short = omega arith;
      few = some;
    }

without-fields : (end : LineEnd) (s m : List ℕ) (fields : List Field) → s ++ 10 ∷ [] ≡ print_end end → 0 < length m → SectionEnds s m fields
without-fields end s m fields reads some = record {
  ending = 10 ∷ [];
  is_ending = inl (codes "\nA / HTTP/1.0\n", refl);
  with_fields = [];
  last = end;
  valid = All-nil IsField;
  reads = reads;
  short = omega arith;
  few = omega arith;
}

pub section-long : (fields : List Field) (last : LineEnd) → 1 ≤ length (print_section fields last)
section-long fields last =
    let sum = length-append (flat_map print_field fields) (print_end last) in
    let end = end-long last in omega arith

-- the field's value or its line end is cut
value-ends : (f : Field) (fields : List Field) (last : LineEnd) (s more left m : List ℕ) → IsField f
    → s ≡ f.name ++ 58 ∷ more → m ≡ left ++ print_section fields last
    → Inside more left f.raw (print_end f.end) ⊎ Past more left f.raw (print_end f.end) → SectionEnds s m (f ∷ fields)
value-ends f fields last s more left m field is m-is (inl (rest, raw-is, left-is)) =
    let section = section-long fields last in
    let end = end-long f.end in
    let all = ap length m-is ∙ length-append left (print_section fields last) in
    let part = ap length left-is ∙ length-append rest (print_end f.end) in
    with-field s (10 ∷ []) m (f ∷ fields) (record { name = f.name; raw = more; end = lf })
    (record { name = field.name; raw = pass-start is_value_byte more rest f.raw raw-is field.raw })
    (ap (λ l. l ++ 10 ∷ []) is ∙ append_assoc f.name (58 ∷ more) (10 ∷ []))
    (inl (codes "\nA / HTTP/1.0", refl)) (omega arith) (omega arith)
value-ends f fields last s more [] m field is m-is (inr (rest, more-is, end-is)) =
    let section = section-long fields last in
    let all = ap length m-is in
    let ended : rest ≡ print_end f.end = sym (append-nil rest) ∙ end-is in
    with-field s [] m (f ∷ fields) f field
    (append-nil s ∙ is ∙ ap (λ l. f.name ++ 58 ∷ l) (more-is ∙ ap (λ l. f.raw ++ l) ended))
    (inl (codes "\nA / HTTP/1.0\n", refl)) (omega arith) (omega arith)
value-ends f fields last s more (z ∷ left) m field is m-is (inr (rest, more-is, end-is)) =
    let section = section-long fields last in
    let all = ap length m-is ∙ length-append (z ∷ left) (print_section fields last) in
    let (other, reads) = newline f.end rest (z ∷ left) end-is (omega arith) in
    with-field s (10 ∷ []) m (f ∷ fields) (record { name = f.name; raw = f.raw; end = other })
    (record { name = field.name; raw = field.raw })
    (ap (λ l. l ++ 10 ∷ []) is ∙ append_assoc f.name (58 ∷ more) (10 ∷ [])
    ∙ ap (λ l. f.name ++ 58 ∷ (l ++ 10 ∷ [])) more-is
    ∙ ap (λ l. f.name ++ 58 ∷ l) (append_assoc f.raw rest (10 ∷ []) ∙ ap (λ l. f.raw ++ l) reads))
    (inl (codes "\nA / HTTP/1.0", refl)) (omega arith) (omega arith)

-- the field's name is cut, or its colon lacks
name-ends : (f : Field) (fields : List Field) (last : LineEnd) (s left m : List ℕ) → IsField f
    → m ≡ left ++ print_section fields last
    → Inside s left f.name (58 ∷ f.raw ++ print_end f.end) ⊎ Past s left f.name (58 ∷ f.raw ++ print_end f.end)
    → SectionEnds s m (f ∷ fields)
name-ends f fields last [] left m field m-is (inl (rest, name-is, left-is)) =
    let section = section-long fields last in
    let all = ap length m-is ∙ length-append left (print_section fields last) in
    without-fields lf [] m (f ∷ fields) refl (omega arith)
name-ends f fields last (x ∷ s) left m field m-is (inl (rest, name-is, left-is)) =
    let section = section-long fields last in
    let end = end-long f.end in
    let all = ap length m-is ∙ length-append left (print_section fields last) in
    let part = ap length left-is ∙ length-append rest (58 ∷ f.raw ++ print_end f.end) in
    let value = length-append f.raw (print_end f.end) in
    with-field (x ∷ s) (58 ∷ 10 ∷ []) m (f ∷ fields) (record { name = x ∷ s; raw = []; end = lf })
    (record { name = (omega arith, pass-start is_token_byte (x ∷ s) rest f.name name-is field.name.1); raw = pass-none is_value_byte })
    refl (inr (inl ([], refl))) (omega arith) (omega arith)
name-ends f fields last s left m field m-is (inr ([], s-is, rest-is)) =
    let section = section-long fields last in
    let end = end-long f.end in
    let all = ap length m-is ∙ length-append left (print_section fields last) in
    let part = ap length rest-is in
    let value = length-append f.raw (print_end f.end) in
    with-field s (58 ∷ 10 ∷ []) m (f ∷ fields) (record { name = f.name; raw = []; end = lf })
    (record { name = field.name; raw = pass-none is_value_byte })
    (ap (λ l. l ++ 58 ∷ 10 ∷ []) (s-is ∙ append-nil f.name)) (inr (inl ([], refl))) (omega arith) (omega arith)
name-ends f fields last s left m field m-is (inr (y ∷ more, s-is, rest-is)) =
    let colon : y ≡ 58 = cc rest-is in
    value-ends f fields last s more left m field (s-is ∙ ap (λ h. f.name ++ h ∷ more) colon) m-is
    (cut more left f.raw (print_end f.end) (cc rest-is))

-- the rest of the section, after a field that is whole
after-field : (f : Field) (fields : List Field) (s more m : List ℕ) → IsField f → s ≡ print_field f ++ more
    → SectionEnds more m fields → SectionEnds s m (f ∷ fields)
after-field f fields s more m field is then =
    let few = then.few in
    record {
      ending = then.ending;
      is_ending = then.is_ending;
      with_fields = f ∷ then.with_fields;
      last = then.last;
      valid = All-cons IsField f then.with_fields field then.valid;
      reads = ap (λ l. l ++ then.ending) is ∙ append_assoc (print_field f) more then.ending
          ∙ ap (λ l. print_field f ++ l) then.reads
          ∙ sym (append_assoc (print_field f) (flat_map print_field then.with_fields) (print_end then.last));
      short = then.short;
      few = omega arith;
    }

in-field : (f : Field) (fields : List Field) (last : LineEnd) (s m : List ℕ) → IsField f
    → ((more : List ℕ) → more ++ m ≡ print_section fields last → SectionEnds more m fields)
    → Inside s m (print_field f) (print_section fields last) ⊎ Past s m (print_field f) (print_section fields last)
    → SectionEnds s m (f ∷ fields)
in-field f fields last s m field next (inl (left, is, m-is)) =
    name-ends f fields last s left m field m-is (cut s left f.name (58 ∷ f.raw ++ print_end f.end) (is ∙ field-text f))
in-field f fields last s m field next (inr (more, is, rest)) = after-field f fields s more m field is (next more rest)

pub section-ends : (fields : List Field) (last : LineEnd) (s m : List ℕ) → All IsField fields
    → s ++ m ≡ print_section fields last → 0 < length m → SectionEnds s m fields
section-ends [] last s m valid same some =
    let (end, reads) = newline last s m same some in without-fields end s m [] reads some
section-ends (f ∷ fields) last s m valid same some =
    in-field f fields last s m (All-head IsField f fields valid)
    (λ more rest. section-ends fields last more m (All-tail IsField f fields valid) rest some)
    (cut s m (print_field f) (print_section fields last)
    (same ∙ append_assoc (print_field f) (flat_map print_field fields) (print_end last)))
