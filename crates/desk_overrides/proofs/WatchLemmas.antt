-- One look more, in what is known of a point's overrides.
use Rattle.std.proofs.Common.{◌≡◌, ◌∙◌, Bool, true, false, ◌&&◌, ◌==◌, if◌then◌else◌, ℤ, List, [], ◌∷◌, ◌++◌, Option, Some, None, Decides, refl, sym, ap, append_assoc}
use Rattle.std.proofs.lemmas.Bool.{false≢true}
use Rattle.std.proofs.lemmas.Bool.Decides.{Decides-and, Decides-eqb}
use Rattle.std.proofs.lemmas.List.{append-nil}
use Rattle.std.proofs.lemmas.Slice.Eq.{bytes_eq-Decides}
use Rattle.std.specs.Str.{bytes_eq}
use Rattle.desk_overrides.specs.declared.overriding.Given.{Given}
use Rattle.desk_overrides.specs.declared.overriding.Look.{Look}
use Rattle.desk_overrides.specs.declared.overriding.Override.{Override}
use Rattle.desk_overrides.specs.declared.watch.Standing.{Standing}
use Rattle.desk_overrides.specs.Overrides.{begun, ended_in, is_given, override_by, overrides}
use Rattle.desk_overrides.specs.Watched.{AreKnown, given_of, standing_from, standing_in}

-- ---- one command

-- the same panel and number
record OneCommand (a b : Given) : Type 0 where
  pub panel : a.panel ≡ b.panel
  pub number : a.number ≡ b.number

one : (a b : Given) → is_given (Some a) b ≡ true → OneCommand a b
one a b same =
    let parts = (Decides-and _ _ (bytes_eq-Decides a.panel b.panel) (Decides-eqb a.number b.number)).0 same in
    record { panel = parts.0; number = parts.1 }

given-one : (a b : Given) → OneCommand a b → is_given (Some a) b ≡ true
given-one a b same = (Decides-and _ _ (bytes_eq-Decides a.panel b.panel) (Decides-eqb a.number b.number)).1 (same.panel, same.number)

given-back : (a b : Given) → is_given (Some a) b ≡ true → is_given (Some b) a ≡ true
given-back a b same =
    let is = one a b same in
    given-one b a (record { panel = sym is.panel; number = sym is.number })

given-not : (a b : Given) → is_given (Some a) b ≡ false → is_given (Some b) a ≡ false
given-not a b not_same = by (is_given (Some b) a) refl
  where
    by : (test : Bool) → is_given (Some b) a ≡ test → is_given (Some b) a ≡ false
    by true is = absurd (false≢true (sym not_same ∙ given-back b a is))
    by false is = is

given-alike : (a b c : Given) → OneCommand a b → is_given (Some a) c ≡ is_given (Some b) c
given-alike a b c same = ap (λ panel. bytes_eq panel c.panel && a.number == c.number) same.panel
    ∙ ap (λ number. bytes_eq b.panel c.panel && number == c.number) same.number

-- ---- what begins at a look

begun-none : (look : Look) (later : List Look) → begun None look.given look.last later ≡ standing_in (standing_from look) later
begun-none look later = by look.given
  where
    by : (given : Option Given) → begun None given look.last later ≡ standing_in (standing_from (record { given = given; last = look.last })) later
    by None = refl
    by (Some given) = refl

begun-other : (standing : Given) (look : Look) (later : List Look) → is_given look.given standing ≡ false
    → begun (Some standing) look.given look.last later ≡ standing_in (standing_from look) later
begun-other standing look later = by look.given
  where
    by : (given : Option Given) → is_given given standing ≡ false
        → begun (Some standing) given look.last later ≡ standing_in (standing_from (record { given = given; last = look.last })) later
    by None is = refl
    by (Some given) is =
        ap (λ (test : Bool). if test then [] else override_by given look.last later ∷ []) (given-not given standing is)

begun-same : (standing : Given) (given : Option Given) (last : Option ℤ) (later : List Look) → is_given given standing ≡ true
    → begun (Some standing) given last later ≡ []
begun-same standing None last later is = absurd (false≢true is)
begun-same standing (Some given) last later is =
    ap (λ (test : Bool). if test then [] else override_by given last later ∷ []) (given-back given standing is)

begun-alike : (a b : Given) (given : Option Given) (last : Option ℤ) (later : List Look) → OneCommand a b
    → begun (Some a) given last later ≡ begun (Some b) given last later
begun-alike a b None last later same = refl
begun-alike a b (Some c) last later same =
    ap (λ (test : Bool). if test then [] else override_by c last later ∷ []) (given-alike a b c same)

overrides-alike : (a b : Given) (later : List Look) → OneCommand a b → overrides (Some a) later ≡ overrides (Some b) later
overrides-alike a b [] same = refl
overrides-alike a b (look ∷ later) same =
    ap (λ first. first ++ overrides look.given later) (begun-alike a b look.given look.last later same)

overrides-same : (standing : Given) (given : Option Given) (later : List Look) → is_given given standing ≡ true
    → overrides given later ≡ overrides (Some standing) later
overrides-same standing None later is = absurd (false≢true is)
overrides-same standing (Some given) later is = overrides-alike given standing later (one given standing is)

given-from : (look : Look) → given_of (standing_from look) ≡ look.given
given-from look = by look.given
  where
    by : (given : Option Given) → given_of (standing_from (record { given = given; last = look.last })) ≡ given
    by None = refl
    by (Some given) = refl

-- ---- one look more

-- nothing stood
pub noted-first : (ended : List Override) (seen : List Look) (look : Look) → AreKnown ended None seen
    → AreKnown ended (standing_from look) (seen ++ look ∷ [])
noted-first ended seen look known = λ later.
    ap (overrides None) (append_assoc seen (look ∷ []) later)
    ∙ (known (look ∷ later)
    ∙ (ap (λ first. ended ++ (first ++ overrides look.given later)) (begun-none look later)
    ∙ ap (λ given. ended ++ (standing_in (standing_from look) later ++ overrides given later)) (sym (given-from look))))

-- what stood stands
pub noted-same : (ended : List Override) (standing : Standing) (seen : List Look) (look : Look) → AreKnown ended (Some standing) seen
    → is_given look.given standing.given ≡ true → AreKnown ended (Some standing) (seen ++ look ∷ [])
noted-same ended standing seen look known same = λ later.
    ap (overrides None) (append_assoc seen (look ∷ []) later)
    ∙ (known (look ∷ later)
    ∙ (ap (λ (test : Bool). ended ++ (record {
      given = standing.given;
      began = standing.began;
      ended = if test then ended_in standing.given later else Some (record { last = look.last });
    } ∷ (begun (Some standing.given) look.given look.last later ++ overrides look.given later))) same
    ∙ (ap (λ first. ended ++ (override_by standing.given standing.began later ∷ (first ++ overrides look.given later)))
    (begun-same standing.given look.given look.last later same)
    ∙ ap (λ rest. ended ++ (override_by standing.given standing.began later ∷ rest))
    (overrides-same standing.given look.given later same))))

-- what stood ends
pub noted-other : (ended : List Override) (standing : Standing) (seen : List Look) (look : Look) → AreKnown ended (Some standing) seen
    → is_given look.given standing.given ≡ false
    → AreKnown (ended ++ record { given = standing.given; began = standing.began; ended = Some (record { last = look.last }) } ∷ [])
    (standing_from look) (seen ++ look ∷ [])
noted-other ended standing seen look known other = λ later.
    let over : Override = record { given = standing.given; began = standing.began; ended = Some (record { last = look.last }) } in
    ap (overrides None) (append_assoc seen (look ∷ []) later)
    ∙ (known (look ∷ later)
    ∙ (ap (λ (test : Bool). ended ++ (record {
      given = standing.given;
      began = standing.began;
      ended = if test then ended_in standing.given later else Some (record { last = look.last });
    } ∷ (begun (Some standing.given) look.given look.last later ++ overrides look.given later))) other
    ∙ (ap (λ first. ended ++ (over ∷ (first ++ overrides look.given later))) (begun-other standing.given look later other)
    ∙ (ap (λ given. ended ++ (over ∷ (standing_in (standing_from look) later ++ overrides given later))) (sym (given-from look))
    ∙ sym (append_assoc ended (over ∷ []) (standing_in (standing_from look) later ++ overrides (given_of (standing_from look)) later))))))

-- ---- at the end

pub known-standing : (ended : List Override) (standing : Standing) (seen : List Look) → AreKnown ended (Some standing) seen
    → ended ++ record { given = standing.given; began = standing.began; ended = None } ∷ [] ≡ overrides None seen
known-standing ended standing seen known = sym (known []) ∙ ap (overrides None) (append-nil seen)

pub known-none : (ended : List Override) (seen : List Look) → AreKnown ended None seen → ended ≡ overrides None seen
known-none ended seen known = sym (append-nil ended) ∙ (sym (known []) ∙ ap (overrides None) (append-nil seen))
