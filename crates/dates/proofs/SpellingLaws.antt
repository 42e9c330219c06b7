-- Entries and the texts that spell them go one to one.
use Rattle.std.proofs.Common.{◌≡◌, ◌↔◌, refl, sym, ◌∙◌, ap}
use Rattle.std.specs.Prelude.{Result, Ok}
use Rattle.dates.specs.declared.entry.Entry.{Entry}
use Rattle.dates.specs.declared.entry_fault.EntryFault.{EntryFault}
use Rattle.dates.specs.Entry.{IsEntry, reading, spelling, Spells, HasOneSpelling}
use Rattle.points.specs.Texts.{Text}
use Rattle.dates.proofs.ReadSpells.{reading-ok}
use Rattle.dates.proofs.SpelledReads.{reading-text}

reading-spells : (text : Text) (e : Entry) → Spells text e → reading text ≡ Ok e
reading-spells text e h = ap reading h.0 ∙ reading-text e h.1

pub reading-Spells : (text : Text) (e : Entry) → (reading text ≡ Ok e) ↔ Spells text e
reading-Spells text e = (reading-ok text e, reading-spells text e)

-- the same of what reads so
pub read-Spells : (text : Text) (r : Result Entry EntryFault) (e : Entry) → r ≡ reading text → (r ≡ Ok e) ↔ Spells text e
read-Spells text r e same = (λ is. reading-ok text e (sym same ∙ is), λ h. same ∙ reading-spells text e h)

pub one_spelling : (e : Entry) → IsEntry e → HasOneSpelling e
one_spelling e h = record { text = spelling e; spells = (refl, h); only = λ other s. s.0 }

-- an answer of `read`
abbrev ok : Entry → Result Entry EntryFault
ok e = Ok e

ok-same : (e f : Entry) → ok e ≡ ok f → e ≡ f
ok-same e f same = cc

pub Spells-same : (text : Text) (e f : Entry) → Spells text e → Spells text f → e ≡ f
Spells-same text e f he hf =
    ok-same e f (sym (reading-spells text e he) ∙ reading-spells text f hf)
