-- What can follow a beginning of a head, so that it is a head: one of few short texts, if anything can.
use Rattle.std.proofs.Common.{◌≡◌, ◌∙◌, ◌<◌, ◌≤◌, ◌+◌, ◌⊎◌, inl, inr, ℕ, List, [], ◌∷◌, ◌++◌, length, refl, arith, sym, ap, subst, append_assoc, append-nil, length-append, codes, IsUtf8}
use Rattle.std.specs.List.{All}
use Rattle.std.specs.Bool.{IsTrue}
use Rattle.std.proofs.lemmas.Str.{IsUtf8-from_ascii}
use Rattle.std.proofs.lemmas.Str.Ascii.{IsAscii-cons, IsAscii-nil}
use Rattle.std.proofs.lemmas.List.Elements.{All-nil, All-cons, All-append}
use Rattle.httparse.specs.Grammar.{AllPass, Field, IsField, IsRequestHead, IsToken, LineEnd, RequestHead, is_token_byte, is_uri_byte, lf, print_blank, print_end, print_request, print_section}
use Rattle.httparse.proofs.GrammarLemmas.{cons-append}
use Rattle.panel_http.specs.Heads.{HasNoHead, IsHead}
use Rattle.panel_http.specs.Endings.{IsCharacterEnd, IsEndOf, IsEnding, MayBegin, after_224, after_240, of_field, of_target, plain}
use Rattle.panel_http.proofs.CharacterEndings.{character-ends}
use Rattle.panel_http.proofs.SectionEndings.{Inside, Past, cut, end-long, newline, pass-start, section-ends, section-long}

-- ---- the texts from each part of a head on

abbrev LineText : List ℕ → List Field → Type 0
LineText text fields = (end last : LineEnd) × All IsField fields × (text ≡ print_end end ++ print_section fields last)

abbrev VersionText : List ℕ → List Field → Type 0
VersionText text fields = (minor : ℕ) × (rest : List ℕ) × (minor ≤ 1)
    × (text ≡ 32 ∷ (codes "HTTP/1." ++ ((48 + minor) ∷ rest))) × LineText rest fields

abbrev TargetText : List ℕ → List Field → Type 0
TargetText text fields = (target rest : List ℕ) × (0 < length target) × AllPass is_uri_byte target × IsUtf8 target
    × (text ≡ 32 ∷ (target ++ rest)) × VersionText rest fields

abbrev MethodText : List ℕ → List Field → Type 0
MethodText text fields = (method rest : List ℕ) × IsToken method × (text ≡ method ++ rest) × TargetText rest fields

abbrev HeadText : List ℕ → List Field → Type 0
HeadText text fields = (blank : List LineEnd) × (rest : List ℕ) × (text ≡ print_blank blank ++ rest) × MethodText rest fields

-- what follows a beginning of such a text, so that it is one, and no longer than what does
record Ends (IsText : List ℕ → List Field → Type 0) (s m : List ℕ) (fields : List Field) : Type 0 where
  ending : List ℕ
  is_ending : IsEnding ending
  with_fields : List Field
  is_text : IsText (s ++ ending) with_fields
  short : length ending ≤ length m
  few : length with_fields ≤ length fields

-- ---- the least texts

least-line : LineText (codes "\n\n") []
least-line = (lf, lf, All-nil IsField, refl)

least-version : VersionText (codes " HTTP/1.0\n\n") []
least-version = (0, codes "\n\n", omega arith, refl, least-line)

least-target : TargetText (codes " / HTTP/1.0\n\n") []
least-target = (
  47 ∷ [],
  codes " HTTP/1.0\n\n",
  omega arith,
  All-cons (λ b. IsTrue (is_uri_byte b)) 47 [] refl (All-nil (λ b. IsTrue (is_uri_byte b))),
  IsUtf8-from_ascii (47 ∷ []) (IsAscii-cons 47 [] (omega arith) IsAscii-nil),
  refl,
  least-version,
)

letter : IsToken (65 ∷ [])
unfolding is_token_byte
letter = (omega arith, All-cons (λ b. IsTrue (is_token_byte b)) 65 [] refl (All-nil (λ b. IsTrue (is_token_byte b))))

least-method : MethodText (codes "A / HTTP/1.0\n\n") []
least-method = (65 ∷ [], codes " / HTTP/1.0\n\n", letter, refl, least-target)

-- ---- how long each text is at least

line-long : (text : List ℕ) (fields : List Field) → LineText text fields → 2 ≤ length text
line-long text fields (end, last, valid, is) =
    let one = end-long end in
    let other = section-long fields last in
    let all = ap length is ∙ length-append (print_end end) (print_section fields last) in omega arith

version-long : (text : List ℕ) (fields : List Field) → VersionText text fields → 11 ≤ length text
version-long text fields (minor, rest, fits, is, line) =
    let two = line-long rest fields line in
    let all = ap length is in
    let word = length-append (codes "HTTP/1.") ((48 + minor) ∷ rest) in omega arith

target-long : (text : List ℕ) (fields : List Field) → TargetText text fields → 13 ≤ length text
target-long text fields (target, rest, some, valid, utf8, is, version) =
    let later = version-long rest fields version in
    let all = ap length is in
    let sum = length-append target rest in omega arith

method-long : (text : List ℕ) (fields : List Field) → MethodText text fields → 14 ≤ length text
method-long text fields (method, rest, token, is, target) =
    let later = target-long rest fields target in
    let some = token.0 in
    let all = ap length is ∙ length-append method rest in omega arith

-- ---- a beginning of each text

-- nothing of the text is there
at-start : (IsText : List ℕ → List Field → Type 0) (ending m : List ℕ) (fields : List Field) → IsEnding ending → IsText ending []
    → length ending ≤ length m → Ends IsText [] m fields
at-start IsText ending m fields is least fits = record {
  ending = ending;
  is_ending = is;
  with_fields = [];
  is_text = least;
  short = fits;
  few = omega arith;
}

line-cut : (end last : LineEnd) (fields : List Field) (s m : List ℕ) → All IsField fields → 0 < length m
    → Inside s m (print_end end) (print_section fields last) ⊎ Past s m (print_end end) (print_section fields last)
    → Ends LineText s m fields
line-cut end last fields s m valid some (inr (more, s-is, rest)) =
    let then = section-ends fields last more m valid rest some in
    record {
      ending = then.ending;
      is_ending = then.is_ending;
      with_fields = then.with_fields;
      is_text = (
        end,
        then.last,
        then.valid,
        ap (λ l. l ++ then.ending) s-is ∙ append_assoc (print_end end) more then.ending ∙ ap (λ l. print_end end ++ l) then.reads,
      );
      short = then.short;
      few = then.few;
    }
line-cut end last fields s m valid some (inl ([], end-is, m-is)) = record {
  ending = 10 ∷ [];
  is_ending = inl (codes "\nA / HTTP/1.0\n", refl);
  with_fields = [];
  is_text = (end, lf, All-nil IsField, ap (λ l. l ++ 10 ∷ []) (sym (append-nil s) ∙ end-is));
  short = omega arith;
  few = omega arith;
}
line-cut end last fields s m valid some (inl (x ∷ left, end-is, m-is)) =
    let (other, reads) = newline end s (x ∷ left) end-is (omega arith) in
    let section = section-long fields last in
    let all = ap length m-is ∙ length-append (x ∷ left) (print_section fields last) in
    record {
      ending = 10 ∷ 10 ∷ [];
      is_ending = inl (codes "\nA / HTTP/1.0", refl);
      with_fields = [];
      is_text = (other, lf, All-nil IsField, sym (append_assoc s (10 ∷ []) (10 ∷ [])) ∙ ap (λ l. l ++ 10 ∷ []) reads);
      short = omega arith;
      few = omega arith;
    }

line-ends : (text s m : List ℕ) (fields : List Field) → LineText text fields → s ++ m ≡ text → 0 < length m → Ends LineText s m fields
line-ends text s m fields (end, last, valid, is) same some =
    line-cut end last fields s m valid some (cut s m (print_end end) (print_section fields last) (same ∙ is))

-- the digit of the version
digit-ends : (minor : ℕ) (rest s m more : List ℕ) (fields : List Field) → minor ≤ 1 → LineText rest fields
    → s ≡ 32 ∷ (codes "HTTP/1." ++ more) → more ++ m ≡ (48 + minor) ∷ rest → 0 < length m → Ends VersionText s m fields
digit-ends minor rest s m [] fields fits line s-is same some =
    let two = line-long rest fields line in
    let all = ap length same in
    record {
      ending = codes "0\n\n";
      is_ending = inl (codes "\nA / HTTP/1.", refl);
      with_fields = [];
      is_text = (0, codes "\n\n", omega arith, ap (λ l. l ++ codes "0\n\n") s-is, least-line);
      short = omega arith;
      few = omega arith;
    }
digit-ends minor rest s m (d ∷ more) fields fits line s-is same some =
    let digit : d ≡ 48 + minor = cc same in
    let then = line-ends rest more m fields line (cc same) some in
    record {
      ending = then.ending;
      is_ending = then.is_ending;
      with_fields = then.with_fields;
      is_text = (
        minor,
        more ++ then.ending,
        fits,
        ap (λ l. l ++ then.ending) s-is ∙ ap (λ h. 32 ∷ (codes "HTTP/1." ++ (h ∷ (more ++ then.ending)))) digit,
        then.is_text,
      );
      short = then.short;
      few = then.few;
    }

word-cut : (minor : ℕ) (rest s m : List ℕ) (fields : List Field) → minor ≤ 1 → LineText rest fields → 0 < length m
    → Inside s m (codes "HTTP/1.") ((48 + minor) ∷ rest) ⊎ Past s m (codes "HTTP/1.") ((48 + minor) ∷ rest)
    → Ends VersionText (32 ∷ s) m fields
word-cut minor rest s m fields fits line some (inr (more, s-is, same)) =
    digit-ends minor rest (32 ∷ s) m more fields fits line (ap (λ l. 32 ∷ l) s-is) same some
word-cut minor rest s m fields fits line some (inl (left, word-is, m-is)) =
    let two = line-long rest fields line in
    let all = ap length m-is ∙ length-append left ((48 + minor) ∷ rest) in
    let sum = length-append left (codes "0\n\n") in
    let whole : s ++ (left ++ codes "0\n\n") ≡ codes "HTTP/1.0\n\n" =
    sym (append_assoc s left (codes "0\n\n")) ∙ ap (λ l. l ++ codes "0\n\n") word-is in
    record {
      ending = left ++ codes "0\n\n";
      is_ending = inl (codes "\nA / " ++ s, ap (λ l. codes "\nA / " ++ l) (sym whole));
      with_fields = [];
      is_text = (0, codes "\n\n", omega arith, ap (λ l. 32 ∷ l) whole, least-line);
      short = omega arith;
      few = omega arith;
    }

version-ends : (text s m : List ℕ) (fields : List Field) → VersionText text fields → s ++ m ≡ text → 0 < length m
    → Ends VersionText s m fields
version-ends text [] m fields version same some =
    let long = version-long text fields version in
    let all = ap length same in
    at-start VersionText (codes " HTTP/1.0\n\n") m fields (inl (codes "\nA /", refl)) least-version (omega arith)
version-ends text (x ∷ s) m fields (minor, rest, fits, is, line) same some =
    let space : x ≡ 32 = cc (same ∙ is) in
    subst (λ h. Ends VersionText (h ∷ s) m fields) (sym space)
    (word-cut minor rest s m fields fits line some (cut s m (codes "HTTP/1.") ((48 + minor) ∷ rest) (cc (same ∙ is))))

-- the target is cut: its last character, and the version lack
character-ending : (cont : List ℕ) → IsCharacterEnd cont → IsEnding (cont ++ codes " HTTP/1.0\n\n")
character-ending cont (inl is) = inl (codes "\nA /", ap (λ l. codes "\nA /" ++ (l ++ codes " HTTP/1.0\n\n")) (sym is))
character-ending cont (inr (inl is)) = inr (inr (inl (128 ∷ 128 ∷ [], ap (λ l. 128 ∷ 128 ∷ (l ++ codes " HTTP/1.0\n\n")) (sym is))))
character-ending cont (inr (inr (inl is))) = inr (inr (inl (128 ∷ [], ap (λ l. 128 ∷ (l ++ codes " HTTP/1.0\n\n")) (sym is))))
character-ending cont (inr (inr (inr (inl is)))) = inr (inr (inl ([], ap (λ l. l ++ codes " HTTP/1.0\n\n") (sym is))))
character-ending cont (inr (inr (inr (inr (inl is))))) = inr (inr (inr (inl (ap (λ l. l ++ codes " HTTP/1.0\n\n") is))))
character-ending cont (inr (inr (inr (inr (inr is))))) = inr (inr (inr (inr (ap (λ l. l ++ codes " HTTP/1.0\n\n") is))))

bytes-pass : (cont other : List ℕ) → cont ≡ other → AllPass is_uri_byte other → AllPass is_uri_byte cont
bytes-pass cont other is passes = subst (AllPass is_uri_byte) (sym is) passes

high-more : (b : ℕ) (bytes : List ℕ) → IsTrue (is_uri_byte b) → AllPass is_uri_byte bytes → AllPass is_uri_byte (b ∷ bytes)
high-more b bytes = All-cons (λ v. IsTrue (is_uri_byte v)) b bytes

no-bytes : AllPass is_uri_byte []
no-bytes = All-nil (λ v. IsTrue (is_uri_byte v))

character-pass : (cont : List ℕ) → IsCharacterEnd cont → AllPass is_uri_byte cont
character-pass cont (inl is) = bytes-pass cont [] is no-bytes
character-pass cont (inr (inl is)) = bytes-pass cont (128 ∷ []) is (high-more 128 [] refl no-bytes)
character-pass cont (inr (inr (inl is))) = bytes-pass cont (128 ∷ 128 ∷ []) is
    (high-more 128 (128 ∷ []) refl (high-more 128 [] refl no-bytes))
character-pass cont (inr (inr (inr (inl is)))) = bytes-pass cont (128 ∷ 128 ∷ 128 ∷ []) is
    (high-more 128 (128 ∷ 128 ∷ []) refl (high-more 128 (128 ∷ []) refl (high-more 128 [] refl no-bytes)))
character-pass cont (inr (inr (inr (inr (inl is))))) = bytes-pass cont (160 ∷ 128 ∷ []) is
    (high-more 160 (128 ∷ []) refl (high-more 128 [] refl no-bytes))
character-pass cont (inr (inr (inr (inr (inr is))))) = bytes-pass cont (160 ∷ 128 ∷ 128 ∷ []) is
    (high-more 160 (128 ∷ 128 ∷ []) refl (high-more 128 (128 ∷ []) refl (high-more 128 [] refl no-bytes)))

target-cut : (target rest s m : List ℕ) (fields : List Field) → 0 < length target → AllPass is_uri_byte target → IsUtf8 target
    → VersionText rest fields → 0 < length m → Inside s m target rest ⊎ Past s m target rest → Ends TargetText (32 ∷ s) m fields
target-cut target rest s m fields some valid utf8 version left (inr (more, s-is, same)) =
    let then = version-ends rest more m fields version same left in
    record {
      ending = then.ending;
      is_ending = then.is_ending;
      with_fields = then.with_fields;
      is_text = (
        target,
        more ++ then.ending,
        some,
        valid,
        utf8,
        ap (λ l. 32 ∷ (l ++ then.ending)) s-is ∙ ap (λ l. 32 ∷ l) (append_assoc target more then.ending),
        then.is_text,
      );
      short = then.short;
      few = then.few;
    }
target-cut target rest [] m fields some valid utf8 version left (inl (lacks, target-is, m-is)) =
    let later = version-long rest fields version in
    let all = ap length m-is ∙ length-append lacks rest in
    let same = ap length target-is in
    record {
      ending = codes "/ HTTP/1.0\n\n";
      is_ending = inl (codes "\nA ", refl);
      with_fields = [];
      is_text = least-target;
      short = omega arith;
      few = omega arith;
    }
target-cut target rest (x ∷ s) m fields some valid utf8 version left (inl (lacks, target-is, m-is)) =
    let later = version-long rest fields version in
    let all = ap length m-is ∙ length-append lacks rest in
    let last = character-ends (x ∷ s) lacks (subst IsUtf8 (sym target-is) utf8) in
    let sum = length-append last.ending (codes " HTTP/1.0\n\n") in
    let fits = last.short in
    record {
      ending = last.ending ++ codes " HTTP/1.0\n\n";
      is_ending = character-ending last.ending last.is_end;
      with_fields = [];
      is_text = (
        (x ∷ s) ++ last.ending,
        codes " HTTP/1.0\n\n",
        omega arith,
        All-append (λ v. IsTrue (is_uri_byte v)) (x ∷ s) last.ending (pass-start is_uri_byte (x ∷ s) lacks target target-is valid)
            (character-pass last.ending last.is_end),
        last.is_text,
        ap (λ l. 32 ∷ x ∷ l) (sym (append_assoc s last.ending (codes " HTTP/1.0\n\n"))),
        least-version,
      );
      short = omega arith;
      few = omega arith;
    }

target-ends : (text s m : List ℕ) (fields : List Field) → TargetText text fields → s ++ m ≡ text → 0 < length m → Ends TargetText s m fields
target-ends text [] m fields target same some =
    let long = target-long text fields target in
    let all = ap length same in
    at-start TargetText (codes " / HTTP/1.0\n\n") m fields (inl (codes "\nA", refl)) least-target (omega arith)
target-ends text (x ∷ s) m fields (target, rest, long, valid, utf8, is, version) same some =
    let space : x ≡ 32 = cc (same ∙ is) in
    subst (λ h. Ends TargetText (h ∷ s) m fields) (sym space)
    (target-cut target rest s m fields long valid utf8 version some (cut s m target rest (cc (same ∙ is))))

method-cut : (method rest s m : List ℕ) (fields : List Field) → IsToken method → TargetText rest fields → 0 < length m
    → Inside s m method rest ⊎ Past s m method rest → Ends MethodText s m fields
method-cut method rest s m fields token target some (inr (more, s-is, same)) =
    let then = target-ends rest more m fields target same some in
    record {
      ending = then.ending;
      is_ending = then.is_ending;
      with_fields = then.with_fields;
      is_text = (method, more ++ then.ending, token, ap (λ l. l ++ then.ending) s-is ∙ append_assoc method more then.ending, then.is_text);
      short = then.short;
      few = then.few;
    }
method-cut method rest [] m fields token target some (inl (lacks, method-is, m-is)) =
    let later = target-long rest fields target in
    let all = ap length m-is ∙ length-append lacks rest in
    let same = ap length method-is in
    let one = token.0 in
    at-start MethodText (codes "A / HTTP/1.0\n\n") m fields (inl (codes "\n", refl)) least-method (omega arith)
method-cut method rest (x ∷ s) m fields token target some (inl (lacks, method-is, m-is)) =
    let later = target-long rest fields target in
    let all = ap length m-is ∙ length-append lacks rest in
    record {
      ending = codes " / HTTP/1.0\n\n";
      is_ending = inl (codes "\nA", refl);
      with_fields = [];
      is_text = (
        x ∷ s,
        codes " / HTTP/1.0\n\n",
        (omega arith, pass-start is_token_byte (x ∷ s) lacks method method-is token.1),
        refl,
        least-target,
      );
      short = omega arith;
      few = omega arith;
    }

method-ends : (text s m : List ℕ) (fields : List Field) → MethodText text fields → s ++ m ≡ text → 0 < length m → Ends MethodText s m fields
method-ends text s m fields (method, rest, token, is, target) same some =
    method-cut method rest s m fields token target some (cut s m method rest (same ∙ is))

-- after the empty lines
after-blank : (blank : List LineEnd) (s more m : List ℕ) (fields : List Field) → s ≡ print_blank blank ++ more
    → Ends MethodText more m fields
    → Ends HeadText s m fields
after-blank blank s more m fields is then = record {
  ending = then.ending;
  is_ending = then.is_ending;
  with_fields = then.with_fields;
  is_text = (blank, more ++ then.ending, ap (λ l. l ++ then.ending) is ∙ append_assoc (print_blank blank) more then.ending, then.is_text);
  short = then.short;
  few = then.few;
}

one-line : (end : LineEnd) (s m : List ℕ) (fields : List Field) → Ends HeadText s m fields → Ends HeadText (print_end end ++ s) m fields
one-line end s m fields then =
    let (blank, rest, is, text) = then.is_text in
    record {
      ending = then.ending;
      is_ending = then.is_ending;
      with_fields = then.with_fields;
      is_text = (
        end ∷ blank,
        rest,
        append_assoc (print_end end) s then.ending ∙ ap (λ l. print_end end ++ l) is
            ∙ sym (append_assoc (print_end end) (print_blank blank) rest),
        text,
      );
      short = then.short;
      few = then.few;
    }

line-in-blank : (end : LineEnd) (blank : List LineEnd) (rest s m : List ℕ) (fields : List Field) → MethodText rest fields → 0 < length m
    → ((more : List ℕ) → more ++ m ≡ print_blank blank ++ rest → Ends HeadText more m fields)
    → Inside s m (print_end end) (print_blank blank ++ rest) ⊎ Past s m (print_end end) (print_blank blank ++ rest)
    → Ends HeadText s m fields
line-in-blank end blank rest s m fields method some next (inr (more, s-is, same)) =
    subst (λ l. Ends HeadText l m fields) (sym s-is) (one-line end more m fields (next more same))
line-in-blank end blank rest s m fields method some next (inl ([], end-is, m-is)) =
    subst (λ l. Ends HeadText l m fields) (append-nil (print_end end) ∙ sym end-is ∙ append-nil s)
    (one-line end [] m fields (next [] m-is))
line-in-blank end blank rest s m fields method some next (inl (x ∷ left, end-is, m-is)) =
    let (other, reads) = newline end s (x ∷ left) end-is (omega arith) in
    let later = method-long rest fields method in
    let all = ap length m-is ∙ length-append (x ∷ left) (print_blank blank ++ rest) in
    let sum = length-append (print_blank blank) rest in
    record {
      ending = codes "\nA / HTTP/1.0\n\n";
      is_ending = inl ([], refl);
      with_fields = [];
      is_text = (
        other ∷ [],
        codes "A / HTTP/1.0\n\n",
        sym (append_assoc s (10 ∷ []) (codes "A / HTTP/1.0\n\n"))
            ∙ ap (λ l. l ++ codes "A / HTTP/1.0\n\n") (reads ∙ sym (append-nil (print_end other))),
        least-method,
      );
      short = omega arith;
      few = omega arith;
    }

blank-ends : (blank : List LineEnd) (rest s m : List ℕ) (fields : List Field) → MethodText rest fields → 0 < length m
    → s ++ m ≡ print_blank blank ++ rest → Ends HeadText s m fields
blank-ends [] rest s m fields method some same = after-blank [] s s m fields refl (method-ends rest s m fields method same some)
blank-ends (end ∷ blank) rest s m fields method some same =
    line-in-blank end blank rest s m fields method some (λ more then. blank-ends blank rest more m fields method some then)
    (cut s m (print_end end) (print_blank blank ++ rest) (same ∙ append_assoc (print_end end) (print_blank blank) rest))

-- ---- heads

head-text : (h : RequestHead) → print_request h ≡ print_blank h.blank ++ (h.method ++ (32 ∷ (h.target ++ (32 ∷ (codes "HTTP/1."
    ++ ((48 + h.minor) ∷ (print_end h.line_end ++ print_section h.fields h.last)))))))
unfolding print_request
head-text h =
    regroup (print_blank h.blank) h.method h.target (codes "HTTP/1.") (48 + h.minor) (print_end h.line_end)
    (print_section h.fields h.last)
  where
    regroup : (a b c d : List ℕ) (digit : ℕ) (e f : List ℕ)
        → a ++ b ++ 32 ∷ c ++ 32 ∷ (d ++ digit ∷ []) ++ e ++ f ≡ a ++ (b ++ (32 ∷ (c ++ (32 ∷ (d ++ (digit ∷ (e ++ f)))))))
    regroup a b c d digit e f = simp (append_assoc, cons-append)

text-of : (h : RequestHead) → IsRequestHead h → HeadText (print_request h) h.fields
text-of h valid =
    let line = print_end h.line_end ++ print_section h.fields h.last in
    let version = 32 ∷ (codes "HTTP/1." ++ ((48 + h.minor) ∷ line)) in
    let target = 32 ∷ (h.target ++ version) in (
      h.blank,
      h.method ++ target,
      head-text h,
      (
        h.method,
        target,
        valid.method,
        refl,
        (
          h.target,
          version,
          valid.target.0,
          valid.target.1,
          valid.target_text,
          refl,
          (h.minor, line, valid.minor, refl, (h.line_end, h.last, valid.fields, refl)),
        ),
      ),
    )

head-of : (text : List ℕ) (fields : List Field) → HeadText text fields
    → (h : RequestHead) × IsRequestHead h × (text ≡ print_request h) × (h.fields ≡ fields)
head-of text fields (
  blank,
  from-method,
  text-is,
  (
    method,
    from-target,
    token,
    method-is,
    (
      target,
      from-version,
      some,
      valid,
      utf8,
      target-is,
      (minor, from-line, fits, version-is, (end, last, all, line-is)),
    ),
  ),
) =
    let h : RequestHead =
    record { blank = blank; method = method; target = target; minor = minor; line_end = end; fields = fields; last = last } in (
      h,
      record { method = token; target = (some, valid); target_text = utf8; minor = fits; fields = all },
      text-is ∙ ap (λ l. print_blank blank ++ l) (method-is ∙ ap (λ l. method ++ l) (target-is ∙ ap (λ l. 32 ∷ (target ++ l))
          (version-is ∙ ap (λ l. 32 ∷ (codes "HTTP/1." ++ ((48 + minor) ∷ l))) line-is))) ∙ sym (head-text h),
      refl,
    )

-- Where something can follow a beginning of a head so that it is one, one of the endings can.
pub finishes : (bytes : List ℕ) → HasNoHead bytes → MayBegin bytes
    → (ending : List ℕ) × IsEnding ending × (head : RequestHead) × IsHead (bytes ++ ending) head []
finishes bytes none (more, head, rest, is) = by (cut bytes more (print_request head) rest is.reads.1)
  where
    by : Inside bytes more (print_request head) rest ⊎ Past bytes more (print_request head) rest
        → (ending : List ℕ) × IsEnding ending × (head : RequestHead) × IsHead (bytes ++ ending) head []
    by (inr (after, bytes-is, then)) = absurd (none head after (record { reads = (is.reads.0, bytes-is); short = is.short; few = is.few }))
    by (inl ([], head-is, more-is)) = absurd (none head [] (record {
      reads = (is.reads.0, sym (append-nil bytes) ∙ head-is ∙ sym (append-nil (print_request head)));
      short = is.short;
      few = is.few;
    }))
    by (inl (x ∷ left, head-is, more-is)) =
        let (blank, text, text-is, method) = text-of head is.reads.0 in
        let found = blank-ends blank text bytes (x ∷ left) head.fields method (omega arith) (head-is ∙ text-is) in
        let (other, valid, other-is, fields-are) = head-of (bytes ++ found.ending) found.with_fields found.is_text in
        let size = ap length head-is ∙ refl in
        let first = length-append bytes (x ∷ left) in
        let second = length-append bytes found.ending in
        let whole = ap length other-is in
        let short = found.short in
        let fits = is.short in
        let few = found.few in
        let many = is.few in
        let as-many = ap length fields-are in (
          found.ending,
          found.is_ending,
          other,
          record {
            reads = (valid, other-is ∙ sym (append-nil (print_request other)));
            short = omega arith;
            few = omega arith;
          },
        )

-- by which text an ending is one
pub by-ending : (start ending : List ℕ) (head : RequestHead) (R : Type 0) → IsEnding ending → IsHead (start ++ ending) head []
    → (IsEndOf of_field ending → R) → (IsEndOf plain ending → R) → (IsEndOf of_target ending → R)
    → (IsHead (start ++ after_224) head [] → R) → (IsHead (start ++ after_240) head [] → R) → R
by-ending start ending head R (inl is) is_head field first target three four = first is
by-ending start ending head R (inr (inl is)) is_head field first target three four = field is
by-ending start ending head R (inr (inr (inl is))) is_head field first target three four = target is
by-ending start ending head R (inr (inr (inr (inl is)))) is_head field first target three four =
    three (subst (λ l. IsHead (start ++ l) head []) is is_head)
by-ending start ending head R (inr (inr (inr (inr is)))) is_head field first target three four =
    four (subst (λ l. IsHead (start ++ l) head []) is is_head)
