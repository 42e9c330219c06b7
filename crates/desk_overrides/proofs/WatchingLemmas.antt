-- One point more, and one look more.
use Rattle.std.proofs.Common.{◌≡◌, ◌∙◌, ℕ, ℤ, ◌<◌, List, [], ◌∷◌, ◌++◌, Option, append_assoc, get_or, length, map, refl, ap, sym, subst}
use Rattle.std.specs.List.{All, flat_map}
use Rattle.std.proofs.lemmas.List.{append-nil, get_or-map, length-map, map-append}
use Rattle.std.proofs.lemmas.List.Concat.{flat_map-cons}
use Rattle.std.proofs.lemmas.List.Elements.{All-append, All-map}
use Rattle.building.specs.Building.{Building}
use Rattle.deliveries.specs.declared.delivery.Delivery.{Delivery}
use Rattle.deliveries.specs.Delivered.{Holds}
use Rattle.deliveries.specs.Events.{machine}
use Rattle.deliveries.specs.Tables.{tables}
use Rattle.points.specs.declared.point.Point.{Point}
use Rattle.points.specs.Texts.{Text}
use Rattle.store.specs.Standing.{Content, Standing}
use Rattle.desk_why.specs.declared.authors.Authors.{Authors}
use Rattle.desk_why.specs.Authors.{held_of, place_at, places_of, priorities}
use Rattle.desk_why.specs.AuthorsTable.{AreHeld, IsHeld, held_in}
use Rattle.desk_overrides.specs.declared.overriding.Look.{Look}
use Rattle.desk_overrides.specs.declared.watch.Watch.{Watch}
use Rattle.desk_overrides.specs.Lines.{overrides_text}
use Rattle.desk_overrides.specs.Overrides.{given_in, look, looks, overrides_of}
use Rattle.desk_overrides.specs.Watched.{AreWatched, Knows, given_from, lines_in, place_in}

pub mapped-more : {A B : Type 0} (f : A → B) (old new yielded : List A) (one item : A) → new ≡ old ++ one ∷ [] → f one ≡ f item
    → map f old ≡ map f yielded → map f new ≡ map f (yielded ++ item ∷ [])
mapped-more f old new yielded one item is same so_far =
    ap (map f) is ∙ (map-append f old (one ∷ [])
    ∙ (ap (λ xs. xs ++ f one ∷ []) so_far ∙ (ap (λ x. map f yielded ++ x ∷ []) same ∙ sym (map-append f yielded (item ∷ [])))))

pub all-more : {A : Type 0} (P : A → Type 0) (old new : List A) (one : A) → new ≡ old ++ one ∷ [] → All P (one ∷ []) → All P old → All P new
all-more P old new one is holds so_far = subst (All P) (sym is) (All-append P old (one ∷ []) so_far holds)

-- ---- one look more

looks-after : (b : Building) (E before ds : List Delivery) (d : Delivery) (point : Text)
    → looks b E before (ds ++ d ∷ []) point ≡ looks b E before ds point ++ look b E ((before ++ ds) ++ d ∷ []) point ∷ []
looks-after b E before [] d point = ap (λ ds. look b E (ds ++ d ∷ []) point ∷ []) (sym (append-nil before))
looks-after b E before (x ∷ ds) d point = ap (λ rest. look b E (before ++ x ∷ []) point ∷ rest)
    (looks-after b E (before ++ x ∷ []) ds d point
    ∙ ap (λ all. looks b E (before ++ x ∷ []) ds point ++ look b E (all ++ d ∷ []) point ∷ []) (append_assoc before (x ∷ []) ds))

pub looks-push : (b : Building) (E ds : List Delivery) (d : Delivery) (point : Text)
    → looks b E [] (ds ++ d ∷ []) point ≡ looks b E [] ds point ++ look b E (ds ++ d ∷ []) point ∷ []
looks-push b E ds d point = looks-after b E [] ds d point

pub last-of : (b : Building) (E : List Delivery) (store : Standing) → Holds b E store
    → store.content.tables.last_tick ≡ (machine b E).last_tick
unfolding tables
last-of b E store held = ap (λ (content : Content). content.tables.last_tick) held

-- ---- what the table of authors tells of a point

places-same : (b : Building) (E ds : List Delivery) (authors : Authors) (point : Text) → IsHeld b E ds authors point → (ps : List ℕ)
    → map (place_in (held_in authors point)) ps ≡ map (place_at b E ds point) ps
places-same b E ds authors point held [] = refl
places-same b E ds authors point held (p ∷ ps) = λ i. record { priority = p; held = held p i } ∷ places-same b E ds authors point held ps i

pub given-is : (b : Building) (E ds : List Delivery) (authors : Authors) (point : Text) → IsHeld b E ds authors point
    → given_from (held_in authors point) ≡ given_in (places_of b E ds point)
unfolding given_from places_of
given-is b E ds authors point held = ap given_in (places-same b E ds authors point held priorities)

-- what holds at each name of the building's points holds at each point that is watched
at-watches : (P : Text → Type 0) (points : List Point) (watches : List Watch)
    → map (λ (watch : Watch). watch.point) watches ≡ map (λ (point : Point). point.name) points
    → All (λ (point : Point). P point.name) points → All (λ (watch : Watch). P watch.point) watches
at-watches P points watches same holds = λ at other within.
    let names = subst (All P) (sym same) (All-map P (λ (point : Point). point.name) points holds) in
    subst P (get_or-map (λ (watch : Watch). watch.point) watches at other other.point within)
    (names at other.point (subst (λ n. at < n) (sym (length-map watches (λ (watch : Watch). watch.point))) within))

-- each point with one look more
pub watched-more : (b : Building) (E ds : List Delivery) (d : Delivery) (authors : Authors) (last : Option ℤ) (old new : List Watch)
    → AreWatched b E ds old → AreHeld b E (ds ++ d ∷ []) authors → last ≡ (machine b (E ++ (ds ++ d ∷ []))).last_tick
    → map (λ (watch : Watch). watch.point) new ≡ map (λ (watch : Watch). watch.point) old
    → All (λ (watch : Watch). Knows watch (looks b E [] ds watch.point
    ++ record { given = given_from (held_in authors watch.point); last = last } ∷ [])) new
    → AreWatched b E (ds ++ d ∷ []) new
watched-more b E ds d authors last old new watched held is points known =
    let named = points ∙ watched.points in
    let each = at-watches (IsHeld b E (ds ++ d ∷ []) authors) b.points new named held in
    record {
      points = named;
      known = λ at other within.
          let watch : Watch = get_or new at other in
          subst (Knows watch) (sym (looks-push b E ds d watch.point))
          (subst (λ seen. Knows watch (looks b E [] ds watch.point ++ seen ∷ []))
          (λ i. record { given = given-is b E (ds ++ d ∷ []) authors watch.point (each at other within) i; last = is i })
          (known at other within));
    }

-- the last tick that a store tells, which holds the tables of these deliveries
pub last-held : (b : Building) (E ds : List Delivery) (d : Delivery) (store : Standing) → Holds b ((E ++ ds) ++ d ∷ []) store
    → store.content.tables.last_tick ≡ (machine b (E ++ (ds ++ d ∷ []))).last_tick
last-held b E ds d store held =
    last-of b ((E ++ ds) ++ d ∷ []) store held ∙ ap (λ all. (machine b all).last_tick) (append_assoc E ds (d ∷ []))

-- ---- the text

flat_map-map : {A B : Type 0} (f : A → B) (line : B → List ℕ) (xs : List A) → flat_map line (map f xs) ≡ flat_map (λ x. line (f x)) xs
flat_map-map f line [] = refl
flat_map-map f line (x ∷ xs) = flat_map-cons line (f x) (map f xs)
    ∙ (ap (λ rest. line (f x) ++ rest) (flat_map-map f line xs) ∙ sym (flat_map-cons (λ x. line (f x)) x xs))

pub text-is : (b : Building) (E ds : List Delivery) (last from : Option ℤ) (watches : List Watch) (text : List ℕ)
    → last ≡ (machine b (E ++ ds)).last_tick
    → map (λ (watch : Watch). watch.point) watches ≡ map (λ (point : Point). point.name) b.points
    → text ≡ flat_map (lines_in b last from (looks b E [] ds)) (map (λ (watch : Watch). watch.point) watches)
    → text ≡ overrides_text b E ds from
unfolding overrides_of
text-is b E ds last from watches text is points told =
    told ∙ (ap (λ last. flat_map (lines_in b last from (looks b E [] ds)) (map (λ (watch : Watch). watch.point) watches)) is
    ∙ (ap (flat_map (lines_in b (machine b (E ++ ds)).last_tick from (looks b E [] ds))) points
    ∙ flat_map-map (λ (point : Point). point.name) (lines_in b (machine b (E ++ ds)).last_tick from (looks b E [] ds)) b.points))
