-- What a run has printed at most, wherever it stops.
use Rattle.std.proofs.Common.{◌≡◌, ℕ, ℤ, ◌++◌, true, false, Ok, List, [], ◌∷◌, Option, None}
use Rattle.std.proofs.Common.{Some, refl, sym, ap, subst, ◌∙◌, inl, inr, ⊎_elim, append_assoc}
use Rattle.std.proofs.lemmas.List.{append-nil}
use Rattle.std.specs.Io.KnownBytes.{Appends, Keeps}
use Rattle.building.specs.Building.{Building, contents_of}
use Rattle.building.specs.BuildingFile.{building_of}
use Rattle.deliveries.specs.declared.delivery.Delivery.{Delivery}
use Rattle.deliveries.specs.Reply.{reply}
use Rattle.deliveries.specs.Tables.{tables}
use Rattle.store.specs.Standing.{Content, Standing, sound}
use Rattle.desk_cli.specs.LineAnswer.{AnswersLine}
use Rattle.desk_cli.specs.ListLines.{TakesLine}
use Rattle.delivery_json.specs.declared.parsed_line.ParsedLine.{ParsedLine}
use Rattle.delivery_json.specs.declared.parsed_line.ParsedLine.TheVariants as of
use Rattle.delivery_json.specs.DeliveryLine.{parse_line}
use Rattle.points.specs.Beginnings.{AppendsStart}
use Rattle.cli_common.proofs.PrintedLemmas.{start-Keeps, start-after, start-longer, start-nothing, start-whole}
use Rattle.desk_cli.specs.Replay.{Prints, PrintsNoMore, PrintsStart, deliveries_in, is_empty_line, is_past_until, lines_of, lines_until}
use Rattle.desk_cli.specs.Replay.{point_lines}
use Rattle.desk_cli.specs.Until.{IsUntil, until_line}
use Rattle.points.specs.Texts.{Text}
use Rattle.delivery_json.specs.ReplyText.{refusal_line, reply_line}
use Rattle.desk_cli.proofs.LineLemmas.{parsed_by-append, until-within}
use Rattle.desk_cli.proofs.ReplayLemmas.{Progress, answers_to-append}

-- ---- the first lines

pub first-none : (b : Building) (E : List Delivery) (lines : List (List ℕ)) (a : Option (List ℕ)) → PrintsStart b E lines a a
first-none b E lines a = record { first = []; others = lines; parsed = []; cut = refl; parsed_is = refl; printed = start-nothing a [] }

pub first-all : (b : Building) (E : List Delivery) (lines : List (List ℕ)) (old new : Option (List ℕ)) (now : Content)
    → Prints b E lines old new now → PrintsStart b E lines old new
first-all b E lines old new now prints = record {
  first = lines;
  others = [];
  parsed = prints.parsed;
  cut = sym (append-nil lines);
  parsed_is = prints.parsed_is;
  printed = start-whole old new _ prints.printed;
}

pub first-same : (b b' : Building) (E : List Delivery) (line line' : List ℕ) (old new : Option (List ℕ)) → b ≡ b' → line ≡ line'
    → PrintsStart b E (line ∷ []) old new → PrintsStart b' E (line' ∷ []) old new
first-same b b' E line line' old new b_is line_is part =
    subst (λ c. PrintsStart c E (line' ∷ []) old new) b_is (subst (λ l. PrintsStart b E (l ∷ []) old new) line_is part)

-- some lines, of more
pub first-of_more : (b : Building) (E : List Delivery) (lines more : List (List ℕ)) (old new : Option (List ℕ))
    → PrintsStart b E lines old new → PrintsStart b E (lines ++ more) old new
first-of_more b E lines more old new part = record {
  first = part.first;
  others = part.others ++ more;
  parsed = part.parsed;
  cut = ap (λ ls. ls ++ more) part.cut ∙ append_assoc part.first part.others more;
  parsed_is = part.parsed_is;
  printed = part.printed;
}

-- some lines, and the first of others
pub first-after : (b : Building) (E : List Delivery) (lines more : List (List ℕ)) (old mid new : Option (List ℕ)) (now : Content)
    → (prints : Prints b E lines old mid now) → PrintsStart b (E ++ deliveries_in prints.parsed) more mid new
    → PrintsStart b E (lines ++ more) old new
first-after b E lines more old mid new now prints part = record {
  first = lines ++ part.first;
  others = part.others;
  parsed = prints.parsed ++ part.parsed;
  cut = ap (λ ls. lines ++ ls) part.cut ∙ sym (append_assoc lines part.first part.others);
  parsed_is = parsed_by-append b lines part.first prints.parsed part.parsed prints.parsed_is part.parsed_is;
  printed = subst (λ text. AppendsStart old new text)
      (sym (answers_to-append b E prints.parsed part.parsed))
      (start-after old mid new _ _ prints.printed part.printed);
}

-- what a line is answered
answered_whole : (b : Building) (E : List Delivery) (line text : List ℕ) (answered : List ℕ) (old new : Option (List ℕ))
    (now : Standing)
    (parsed : Option ParsedLine)
    → is_empty_line line ≡ false → parse_line b line ≡ parsed → AnswersLine b E parsed (Ok answered) now → text ≡ answered
    → Appends old new text → Prints b E (line ∷ []) old new now.content
answered_whole b E line text answered old new now None some one answers is printed = absurd answers
answered_whole b E line text answered old new now (Some (of.Delivery d)) some one answers is printed = record {
  parsed = of.Delivery d ∷ [];
  parsed_is = rw (some, one) refl;
  printed = subst (λ t. Appends old new t) (is ∙ answers.0 ∙ sym (append-nil (reply_line (reply b E d)))) printed;
  holds = answers.1;
}
answered_whole b E line text answered old new now (Some (of.RefusedImport refused)) some one answers is printed = record {
  parsed = of.RefusedImport refused ∷ [];
  parsed_is = rw (some, one) refl;
  printed = subst (λ t. Appends old new t) (is ∙ answers.0 ∙ sym (append-nil (refusal_line refused))) printed;
  holds = answers.1 ∙ ap (λ list. sound (tables b list)) (sym (append-nil E));
}

pub Prints-answered : (b : Building) (E : List Delivery) (line text : List ℕ) (answered : List ℕ) (old new : Option (List ℕ))
    (now : Standing)
    → is_empty_line line ≡ false → AnswersLine b E (parse_line b line) (Ok answered) now → text ≡ answered → Appends old new text
    → Prints b E (line ∷ []) old new now.content
Prints-answered b E line text answered old new now some answers is printed = answered_whole b E line text answered old new now
    (parse_line b line) some refl answers is printed

-- what a line is answered, or a beginning of it
replied : (b : Building) (E : List Delivery) (line text : List ℕ) (answered : List ℕ) (old new : Option (List ℕ)) (now : Standing)
    (parsed : Option ParsedLine)
    → is_empty_line line ≡ false → parse_line b line ≡ parsed → AnswersLine b E parsed (Ok answered) now → text ≡ answered
    → AppendsStart old new text → PrintsStart b E (line ∷ []) old new
replied b E line text answered old new now None some none answers is start = absurd answers
replied b E line text answered old new now (Some (of.Delivery d)) some one answers is start = record {
  first = line ∷ [];
  others = [];
  parsed = of.Delivery d ∷ [];
  cut = refl;
  parsed_is = rw (some, one) refl;
  printed = start-longer old new (reply_line (reply b E d)) [] (subst (λ t. AppendsStart old new t) (is ∙ answers.0) start);
}
replied b E line text answered old new now (Some (of.RefusedImport refused)) some one answers is start = record {
  first = line ∷ [];
  others = [];
  parsed = of.RefusedImport refused ∷ [];
  cut = refl;
  parsed_is = rw (some, one) refl;
  printed = start-longer old new (refusal_line refused) [] (subst (λ t. AppendsStart old new t) (is ∙ answers.0) start);
}

pub first-replied : (b : Building) (E : List Delivery) (line text : List ℕ) (answered : List ℕ) (old new : Option (List ℕ))
    (now : Standing)
    → is_empty_line line ≡ false → AnswersLine b E (parse_line b line) (Ok answered) now → text ≡ answered → AppendsStart old new text
    → PrintsStart b E (line ∷ []) old new
first-replied b E line text answered old new now some answers is start = replied b E line text answered old new now
    (parse_line b line) some refl answers is start

-- ---- where the reading stops

-- before the next line
pub Progress-stops : (b : Building) (until : Option ℤ) (E : List Delivery) (bytes : List ℕ) (left old new : Option (List ℕ)) (now : Content)
    → Progress b until E bytes left old new now
    → PrintsStart b E (lines_until b until (lines_of bytes)) old new
Progress-stops b until E bytes left old new now p =
    subst (λ ls. PrintsStart b E ls old new) (sym p.lines_are)
    (first-of_more b E p.passed (lines_until b until (lines_of p.rest)) old new (first-all b E p.passed old new now p.prints))

-- at it
pub Progress-stops-at : (b : Building) (until : Option ℤ) (E : List Delivery) (bytes line : List ℕ) (left after old mid new : Option (List ℕ))
    (now : Content)
    → Progress b until E bytes left old mid now → ((rest : List ℕ) → left ≡ Some rest → TakesLine rest true line after)
    → is_past_until b until line ≡ false
    → ((F : List Delivery) → now ≡ sound (tables b F) → PrintsStart b F (line ∷ []) mid new)
    → PrintsStart b E (lines_until b until (lines_of bytes)) old new
Progress-stops-at b until E bytes line left after old mid new now p takes within stops =
    let next = takes p.rest p.left_is in
    subst (λ ls. PrintsStart b E ls old new)
    (sym (p.lines_are
    ∙ ap (λ ls. p.passed ++ ls) (ap (lines_until b until) next.2 ∙ until-within b until line (lines_of next.0) within)))
    (first-after b E p.passed (line ∷ lines_until b until (lines_of next.0)) old mid new now p.prints
    (first-of_more b (E ++ deliveries_in p.prints.parsed) (line ∷ []) (lines_until b until (lines_of next.0)) mid new
    (stops (E ++ deliveries_in p.prints.parsed) p.prints.holds)))

-- ---- the whole run

pub no_more-lines : (said : Option Text) (until : Option ℤ) (file : List ℕ) (E : List Delivery) (list : List ℕ) (b : Building)
    (old mid new : Option (List ℕ))
    → building_of file ≡ Ok (contents_of b) → IsUntil b said until → PrintsStart b E (lines_until b until (lines_of list)) old mid
    → Keeps mid new → PrintsNoMore said file E list old new
no_more-lines said until file E list b old mid new file_is until_is part kept = inr (
  b,
  until,
  file_is,
  until_is,
  inl (record {
    first = part.first;
    others = part.others;
    parsed = part.parsed;
    cut = part.cut;
    parsed_is = part.parsed_is;
    printed = start-Keeps old mid new _ part.printed kept;
  }),
)

-- all lines, and a beginning of what follows them
pub no_more-rest : (said : Option Text) (until : Option ℤ) (file : List ℕ) (E : List Delivery) (list : List ℕ) (b : Building)
    (old mid new last : Option (List ℕ)) (now : Content)
    → building_of file ≡ Ok (contents_of b) → IsUntil b said until → (prints : Prints b E (lines_until b until (lines_of list)) old mid now)
    → AppendsStart mid new (point_lines b (tables b (E ++ deliveries_in prints.parsed)) ++ until_line b until) → Keeps new last
    → PrintsNoMore said file E list old last
no_more-rest said until file E list b old mid new last now file_is until_is prints rest kept = inr (
  b,
  until,
  file_is,
  until_is,
  inr (record {
    parsed = prints.parsed;
    parsed_is = prints.parsed_is;
    printed = start-Keeps old new last _ (start-after old mid new _ _ prints.printed rest) kept;
  }),
)

points_of : (b b' : Building) (E : List Delivery) (now : Content) → b' ≡ b → now ≡ sound (tables b E)
    → point_lines b' now.tables ≡ point_lines b (tables b E)
points_of b b' E now still holds i = point_lines (still i) (holds i).tables

-- a beginning of the points
pub no_more-points : (said : Option Text) (until : Option ℤ) (file : List ℕ) (E : List Delivery) (list : List ℕ) (b b' : Building)
    (old mid new last : Option (List ℕ)) (now : Content)
    → building_of file ≡ Ok (contents_of b) → IsUntil b said until → Prints b E (lines_until b until (lines_of list)) old mid now
    → b' ≡ b → AppendsStart mid new (point_lines b' now.tables) → Keeps new last → PrintsNoMore said file E list old last
no_more-points said until file E list b b' old mid new last now file_is until_is prints still points kept =
    no_more-rest said until file E list b old mid new last now file_is until_is prints
    (start-longer mid new _ (until_line b until)
    (subst (λ text. AppendsStart mid new text) (points_of b b' (E ++ deliveries_in prints.parsed) now still prints.holds) points)) kept

-- the points, and a beginning of the moment
pub no_more-told : (said : Option Text) (until : Option ℤ) (file : List ℕ) (E : List Delivery) (list : List ℕ) (b b' : Building)
    (old mid shown new last : Option (List ℕ)) (now : Content) (told : List ℕ)
    → building_of file ≡ Ok (contents_of b) → IsUntil b said until → Prints b E (lines_until b until (lines_of list)) old mid now
    → b' ≡ b → Appends mid shown (point_lines b' now.tables) → told ≡ until_line b until → AppendsStart shown new told → Keeps new last
    → PrintsNoMore said file E list old last
no_more-told said until file E list b b' old mid shown new last now told file_is until_is prints still points told_is end kept =
    no_more-rest said until file E list b old mid new last now file_is until_is prints
    (start-after mid shown new _ _
    (subst (λ text. Appends mid shown text) (points_of b b' (E ++ deliveries_in prints.parsed) now still prints.holds) points)
    (subst (λ text. AppendsStart shown new text) told_is end)) kept

pub Keeps-Keeps : (a b c : Option (List ℕ)) → Keeps a b → Keeps b c → Keeps a c
Keeps-Keeps None b c h k = tt
Keeps-Keeps (Some xs) None c h k = absurd h
Keeps-Keeps (Some xs) (Some ys) None h k = absurd k
Keeps-Keeps (Some xs) (Some ys) (Some zs) h k = k ∙ h

-- what is printed stays printed
pub no_more-Keeps : (said : Option Text) (file : List ℕ) (E : List Delivery) (list : List ℕ) (old mid new : Option (List ℕ))
    → PrintsNoMore said file E list old mid → Keeps mid new → PrintsNoMore said file E list old new
no_more-Keeps said file E list old mid new printed kept = ⊎_elim
    (λ nothing. inl (Keeps-Keeps old mid new nothing kept))
    (λ some. ⊎_elim
    (λ first. no_more-lines said some.1 file E list some.0 old mid new some.2 some.3 first kept)
    (λ all. inr (
      some.0,
      some.1,
      some.2,
      some.3,
      inr (record {
        parsed = all.parsed;
        parsed_is = all.parsed_is;
        printed = start-Keeps old mid new _
            all.printed kept;
      }),
    ))
    some.4)
    printed
