-- Printing one line after another.
use Rattle.std.proofs.Common.{◌≡◌, ℕ, ℤ, ◌+◌, ◌<◌, ◌++◌, true, false, List, [], ◌∷◌}
use Rattle.std.proofs.Common.{length, take, get_or, Ok, Option, Some}
use Rattle.std.proofs.Common.{refl, sym, ap, ap₂, subst, ◌∙◌, append_assoc}
use Rattle.std.proofs.lemmas.Grind.{flat_map-append}
use Rattle.std.proofs.lemmas.List.{append-nil, take_more}
use Rattle.std.specs.List.{flat_map}
use Rattle.std.specs.Io.KnownBytes.{Appends, Keeps}
use Rattle.building.specs.Building.{Building, contents_of}
use Rattle.building.specs.BuildingFile.{building_of}
use Rattle.deliveries.specs.declared.delivery.Delivery.{Delivery}
use Rattle.deliveries.specs.Reply.{reply}
use Rattle.deliveries.specs.Tables.{tables}
use Rattle.store.specs.Standing.{Content, sound}
use Rattle.store.specs.Tables.{Tables}
use Rattle.points.specs.declared.Point.{Point}
use Rattle.points.specs.Rights.{point_named}
use Rattle.desk.specs.PointState.{state_of}
use Rattle.delivery_json.specs.declared.parsed_line.ParsedLine.{ParsedLine}
use Rattle.delivery_json.specs.declared.parsed_line.ParsedLine.TheVariants as of
use Rattle.cli_common.proofs.PrintedLemmas.{Appends-Appends, Appends-Keeps, Appends-nothing}
use Rattle.desk_cli.specs.ListLines.{TakesLine}
use Rattle.desk_cli.specs.Replay.{Prints, Replays, answers_to, deliveries_in, is_past_until, line_of_point, lines_of, lines_until}
use Rattle.desk_cli.specs.Replay.{point_lines, state_line}
use Rattle.desk_cli.specs.Until.{IsUntil, until_line}
use Rattle.points.specs.Texts.{Text}
use Rattle.desk_cli.proofs.LineLemmas.{deliveries_in-append, lines-more, parsed_by-append, until-none, until-past}
use Rattle.delivery_json.specs.ReplyText.{refusal_line, reply_line}

-- ---- answers, one part after another

pub answers_to-append : (b : Building) (E : List Delivery) (ts us : List ParsedLine)
    → answers_to b E (ts ++ us) ≡ answers_to b E ts ++ answers_to b (E ++ deliveries_in ts) us
answers_to-append b E [] us = ap (λ F. answers_to b F us) (sym (append-nil E))
answers_to-append b E (of.Delivery d ∷ ts) us =
    let one : List ℕ = reply_line (reply b E d) in
    let F : List Delivery = E ++ d ∷ [] in
    ap (λ text. one ++ text) (answers_to-append b F ts us)
    ∙ ap (λ G. one ++ (answers_to b F ts ++ answers_to b G us)) (append_assoc E (d ∷ []) (deliveries_in ts))
    ∙ sym (append_assoc one (answers_to b F ts) (answers_to b (E ++ d ∷ deliveries_in ts) us))
answers_to-append b E (of.RefusedImport refused ∷ ts) us =
    let one : List ℕ = refusal_line refused in
    ap (λ text. one ++ text) (answers_to-append b E ts us)
    ∙ sym (append_assoc one (answers_to b E ts) (answers_to b (E ++ deliveries_in ts) us))

-- what was printed of some lines, and then of more
pub Prints-Prints : (b : Building) (E : List Delivery) (ls ms : List (List ℕ)) (w x y : Option (List ℕ)) (t u : Content)
    → (first : Prints b E ls w x t) → Prints b (E ++ deliveries_in first.parsed) ms x y u → Prints b E (ls ++ ms) w y u
Prints-Prints b E ls ms w x y t u first more = record {
  parsed = first.parsed ++ more.parsed;
  parsed_is = parsed_by-append b ls ms first.parsed more.parsed first.parsed_is more.parsed_is;
  printed = subst (λ text. Appends w y text)
      (sym (answers_to-append b E first.parsed more.parsed))
      (Appends-Appends w x y _ _ first.printed more.printed);
  holds = more.holds ∙ ap (λ list. sound (tables b list)) (append_assoc E (deliveries_in first.parsed) (deliveries_in more.parsed)
      ∙ ap (λ ds. E ++ ds) (sym (deliveries_in-append first.parsed more.parsed)));
}

-- ---- the way through a reader's bytes

-- of all the bytes, the lines before those that are left were printed
pub record Progress (b : Building) (until : Option ℤ) (E : List Delivery) (bytes : List ℕ) (left old new : Option (List ℕ)) (now : Content) :
    Type 0 where
  pub passed : List (List ℕ)
  pub rest : List ℕ
  pub left_is : left ≡ Some rest
  pub lines_are : lines_until b until (lines_of bytes) ≡ passed ++ lines_until b until (lines_of rest)
  pub prints : Prints b E passed old new now

pub Progress-start : (b : Building) (until : Option ℤ) (E : List Delivery) (bytes : List ℕ) (left old : Option (List ℕ)) (now : Content)
    → left ≡ Some bytes → now ≡ sound (tables b E) → Progress b until E bytes left old old now
Progress-start b until E bytes left old now left_is holds = record {
  passed = [];
  rest = bytes;
  left_is = left_is;
  lines_are = refl;
  prints =
      record {
        parsed = [];
        parsed_is = refl;
        printed = Appends-nothing old;
        holds = holds ∙ ap (λ list. sound (tables b list)) (sym (append-nil E));
      };
}

pub Progress-end : (b : Building) (until : Option ℤ) (E : List Delivery) (bytes line : List ℕ) (left after old new : Option (List ℕ))
    (now : Content)
    → Progress b until E bytes left old new now → ((rest : List ℕ) → left ≡ Some rest → TakesLine rest false line after)
    → Prints b E (lines_until b until (lines_of bytes)) old new now
Progress-end b until E bytes line left after old new now p none =
    subst (λ ls. Prints b E ls old new now)
    (sym (p.lines_are
    ∙ ap (λ ls. p.passed ++ ls) (ap (lines_until b until) (none p.rest p.left_is) ∙ until-none b until)
    ∙ append-nil p.passed)) p.prints

-- the next line lies past the moment
pub Progress-past : (b : Building) (until : Option ℤ) (E : List Delivery) (bytes line : List ℕ) (left after old new : Option (List ℕ))
    (now : Content)
    → Progress b until E bytes left old new now → ((rest : List ℕ) → left ≡ Some rest → TakesLine rest true line after)
    → is_past_until b until line ≡ true → Prints b E (lines_until b until (lines_of bytes)) old new now
Progress-past b until E bytes line left after old new now p takes past =
    let next = takes p.rest p.left_is in
    subst (λ ls. Prints b E ls old new now)
    (sym (p.lines_are
    ∙ ap (λ ls. p.passed ++ ls) (ap (lines_until b until) next.2 ∙ until-past b until line (lines_of next.0) past)
    ∙ append-nil p.passed)) p.prints

-- one more line was read and printed
pub Progress-line : (b : Building) (until : Option ℤ) (E : List Delivery) (bytes line : List ℕ) (left after old mid new : Option (List ℕ))
    (now then : Content)
    → Progress b until E bytes left old mid now → ((rest : List ℕ) → left ≡ Some rest → TakesLine rest true line after)
    → is_past_until b until line ≡ false
    → ((F : List Delivery) → now ≡ sound (tables b F) → Prints b F (line ∷ []) mid new then)
    → Progress b until E bytes after old new then
Progress-line b until E bytes line left after old mid new now then p takes within prints =
    let next = takes p.rest p.left_is in
    record {
      passed = p.passed ++ line ∷ [];
      rest = next.0;
      left_is = next.1;
      lines_are = lines-more b until bytes line p.passed p.rest next.0 p.lines_are next.2 within;
      prints = Prints-Prints b E p.passed (line ∷ []) old mid new now then p.prints
          (prints (E ++ deliveries_in p.prints.parsed) p.prints.holds);
    }

-- what is printed stays printed
pub Replays-Keeps : (said : Option Text) (file : List ℕ) (E : List Delivery) (list : List ℕ) (old mid new : Option (List ℕ))
    → Replays said file E list old mid → Keeps mid new → Replays said file E list old new
Replays-Keeps said file E list old mid new r kept = record {
  building = r.building;
  until = r.until;
  parsed = r.parsed;
  building_is = r.building_is;
  until_is = r.until_is;
  parsed_is = r.parsed_is;
  printed = Appends-Keeps old mid new _ r.printed kept;
}

-- the replies, then the points, and the moment
pub Replays-done : (said : Option Text) (until : Option ℤ) (file : List ℕ) (E : List Delivery) (list : List ℕ) (b b' : Building)
    (old mid shown new : Option (List ℕ)) (now : Content) (told : List ℕ)
    → building_of file ≡ Ok (contents_of b) → IsUntil b said until
    → Prints b E (lines_until b until (lines_of list)) old mid now → b' ≡ b → Appends mid shown (point_lines b' now.tables)
    → told ≡ until_line b until → Appends shown new told → Replays said file E list old new
Replays-done said until file E list b b' old mid shown new now told file_is until_is prints still points told_is end = record {
  building = b;
  until = until;
  parsed = prints.parsed;
  building_is = file_is;
  until_is = until_is;
  parsed_is = prints.parsed_is;
  printed = Appends-Appends old mid new _ _ prints.printed (Appends-Appends mid shown new _ _
      (subst (λ text. Appends mid shown text) (ap₂ (λ x (held : Content). point_lines x held.tables) still prints.holds) points)
      (subst (λ text. Appends shown new text) told_is end));
}

-- ---- points, one after another

abbrev state_at : List ℕ → Tables → Building → List ℕ
state_at name t b = state_line name (state_of (t.places name) (point_named b.points name))

pub points-then : (b b' : Building) (t t' : Tables) (ps : List Point) (i : ℕ) (p : Point) (name line shown : List ℕ)
    → b' ≡ b → t' ≡ t → ps ≡ b'.points → i < length b.points → name ≡ (get_or ps i p).name → line ≡ state_at name t' b' → shown ≡ line
    → flat_map (line_of_point b t) (take (i + 1) b.points) ≡ flat_map (line_of_point b t) (take i b.points) ++ shown
points-then b b' t t' ps i p name line shown b_is t_is ps_are within name_is line_is shown_is =
    let q : Point = get_or b.points i p in
    let named : name ≡ q.name = name_is ∙ ap (λ (xs : List Point). (get_or xs i p).name) (ps_are ∙ ap (λ (c : Building). c.points) b_is) in
    let this : shown ≡ line_of_point b t q = shown_is ∙ line_is ∙ ap (λ n. state_at n t' b') named
    ∙ ap (λ u. state_at q.name u b') t_is ∙ ap (λ c. state_at q.name t c) b_is in
    ap (flat_map (line_of_point b t)) (take_more b.points i p within) ∙ flat_map-append (line_of_point b t) (take i b.points) (q ∷ [])
    ∙ ap (λ l. flat_map (line_of_point b t) (take i b.points) ++ l) (append-nil (line_of_point b t q) ∙ sym this)

pub Prints-same : (b b' : Building) (E : List Delivery) (line line' : List ℕ) (old new : Option (List ℕ)) (now : Content) → b ≡ b'
    → line ≡ line'
    → Prints b E (line ∷ []) old new now → Prints b' E (line' ∷ []) old new now
Prints-same b b' E line line' old new now b_is line_is prints =
    subst (λ c. Prints c E (line' ∷ []) old new now) b_is (subst (λ l. Prints b E (l ∷ []) old new now) line_is prints)
