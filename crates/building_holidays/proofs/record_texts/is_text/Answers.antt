-- The fields before the iterator's position are UTF-8.
use Rattle.std.proofs.Common.{◌≡◌, ℕ, ◌+◌, Bool, true, false, ◌&&◌, not, if◌then◌else◌, List, drop, Bor, Option, Some, None, option_map, refl, sym, ap, ◌∙◌}
use Rattle.std.specs.List.{list_all}
use Rattle.std.specs.Option.{is_some}
use Rattle.std.specs.Str.{is_utf8}
use Rattle.csv.specs.Records.{fields_of, field_at}
use Rattle.points.specs.Texts.{text_of}
use Rattle.building_holidays.proofs.FieldLemmas.{drop_field, drop_past}
use Rattle.building_holidays.proofs.record_texts.is_text.Goals as goal

-- a text is there where the bytes are UTF-8
text_there : (bytes : List ℕ) (text : Option (Bor (List ℕ))) → option_map (λ s. s.now) text ≡ text_of bytes → is_some text ≡ is_utf8 bytes
text_there bytes text e = sym (is_some-map text) ∙ ap is_some e ∙ by (is_utf8 bytes)
  where
    is_some-map : (o : Option (Bor (List ℕ))) → is_some (option_map (λ s. s.now) o) ≡ is_some o
    is_some-map None = refl
    is_some-map (Some s) = refl

    by : (b : Bool) → is_some (if b then Some bytes else None) ≡ b
    by true = refl
    by false = refl

pub loop-field-init : goal.loop-field-init
loop-field-init c =
    let start = c.into_iter-field-iterator.ensures.into_iter_gives in
    rw (start, c.iter-field-items.ensures.row, c.iter-field-items.ensures.at) (refl, refl)

pub loop-field-preserved : goal.loop-field-preserved
loop-field-preserved c =
    let fields : List (List ℕ) = fields_of c.args.fields.now in
    let at : ℕ = c.loop-field.field-iterator.at in
    let field : List ℕ = c.in-Some.field.now in
    let inv = c.loop-field.invariant in
    let step = c.next.ensures.steps in
    let here : field_at fields at ≡ Some field = sym (ap (λ r. field_at (fields_of r) at) inv.0)
    ∙ sym step.1 ∙ ap (option_map (λ (s : Bor (List ℕ)). s.now)) c.in-Some.is in
    let text : is_utf8 field ≡ true = sym (text_there field c.text_of.result c.text_of.ensures)
    ∙ c.is_none.ensures ∙ ap not c.if-is_none.false in
    let next : c.next.new.self.at ≡ at + 1 = rw c.in-Some.is at step.2 in (
      ap (λ b. b.now) step.0 ∙ inv.0,
      inv.1 ∙ ap (list_all is_utf8) (drop_field fields at field here)
          ∙ ap (λ b. b && list_all is_utf8 (drop (at + 1) fields)) text
          ∙ ap (λ n. list_all is_utf8 (drop n fields)) (sym next),
    )

pub returns : goal.returns
returns c =
    let fields : List (List ℕ) = fields_of c.args.fields.now in
    let at : ℕ = c.loop-field.field-iterator.at in
    let inv = c.loop-field.invariant in
    let none : field_at fields at ≡ None = sym (ap (λ r. field_at (fields_of r) at) inv.0)
    ∙ sym c.next.ensures.steps.1 ∙ ap (option_map (λ (s : Bor (List ℕ)). s.now)) c.in-None.is in
    sym (inv.1 ∙ ap (list_all is_utf8) (drop_past fields at none))

pub returns-then-is_none : goal.returns-then-is_none
returns-then-is_none c =
    let fields : List (List ℕ) = fields_of c.args.fields.now in
    let at : ℕ = c.loop-field.field-iterator.at in
    let field : List ℕ = c.in-Some.field.now in
    let inv = c.loop-field.invariant in
    let here : field_at fields at ≡ Some field = sym (ap (λ r. field_at (fields_of r) at) inv.0)
    ∙ sym c.next.ensures.steps.1 ∙ ap (option_map (λ (s : Bor (List ℕ)). s.now)) c.in-Some.is in
    let other : is_utf8 field ≡ false = sym (text_there field c.text_of.result c.text_of.ensures)
    ∙ c.is_none.ensures ∙ ap not c.if-is_none.true in
    sym (inv.1 ∙ ap (list_all is_utf8) (drop_field fields at field here)
    ∙ ap (λ b. b && list_all is_utf8 (drop (at + 1) fields)) other)
