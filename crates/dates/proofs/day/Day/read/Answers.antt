use Rattle.std.proofs.Common.{◌≡◌, ◌↔◌, ◌∙◌, Option, Some, None, Result, Ok, Err, ap, sym, refl}
use Rattle.std.specs.Result.{result_ok}
use Rattle.jiff_core.specs.declared.civil.date.Date.{Date}
use Rattle.dates.specs.DateFields.{full_date_at}
use Rattle.dates.specs.Day.{SpellsDay, day_text}
use Rattle.dates.specs.declared.entry_fault.EntryFault.{EntryFault}
use Rattle.dates.proofs.ReadSpells.{full_date_at-ok}
use Rattle.dates.proofs.SpelledReads.{full_date_at-text}
use Rattle.points.specs.Texts.{Text}
use Rattle.dates.proofs.day.Day.read.Goals as goal

spelled : (text : Text) (day : Date) (read : Result Date EntryFault) → full_date_at text ≡ read → result_ok read ≡ Some day
    → SpellsDay text day
spelled text day (Ok other) reads some =
    let same : other ≡ day = cc in
    full_date_at-ok text day (reads ∙ ap Ok same)
spelled text day (Err fault) reads some = let bad : ⊥ = cc in absurd bad

reads_spelled : (text : Text) (day : Date) → SpellsDay text day → result_ok (full_date_at text) ≡ Some day
reads_spelled text day spells = ap result_ok (ap full_date_at spells.0 ∙ full_date_at-text day spells.1)

pub returns : goal.returns
returns c =
    let is : c.ok.result ≡ result_ok (full_date_at c.args.text.now) = c.ok.ensures.value ∙ ap result_ok c.read_day.ensures in
    (λ day. (
      (λ some. spelled c.args.text.now day (full_date_at c.args.text.now) refl (sym is ∙ some)),
      (λ spells. is ∙ reads_spelled c.args.text.now day spells),
    ))
