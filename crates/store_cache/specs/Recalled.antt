-- What a memory has of tables.
use Rattle.std.specs.Prelude.{◌≡◌, ℕ, Bool, false, List, Option, Some, ℤ, map}
use Rattle.std.specs.Bool.{IsTrue}
use Rattle.std.specs.HashMap.{get}
use Rattle.std.specs.Str.{bytes_eq}
use Rattle.dates.specs.declared.entry.Entry.{Entry}
use Rattle.dates.specs.Entry.{spelling}
use Rattle.points.specs.PriorityArray.{Places}
use Rattle.store.specs.Asked.{Asked}
use Rattle.store.specs.Asked.Asked.{ArrayOf, EntriesOf, LastTick, NextOf, ShownBy}
use Rattle.store.specs.Listed.{AreTexts}
use Rattle.store.specs.Tables.{Tables}
use Rattle.points.specs.Texts.{Text}
use Rattle.store_cache.specs.declared.memory.Memory.{Memory}
use Rattle.store_cache.specs.declared.free_numbers.FreeNumbers.{FreeNumbers}
use Rattle.store_cache.specs.Free.{AreFreeIn}
use Rattle.store_cache.specs.Known.{Has, Knows}

abbrev pub known_next : Memory → Text → Option ℕ
known_next memory panel = get bytes_eq memory.nexts panel

abbrev pub known_free : Memory → Text → Option FreeNumbers
known_free memory panel = get bytes_eq memory.free panel

abbrev pub known_array : Memory → Text → Option Places
known_array memory point = get bytes_eq memory.arrays point

abbrev pub known_shown : Memory → Text → Option (Option (Option ℤ))
known_shown memory schedule = get bytes_eq memory.shown schedule

abbrev pub known_entries : Memory → Text → Option (List Entry)
known_entries memory calendar = get bytes_eq memory.entries calendar

-- the entries that are imported into a calendar, by the order of their texts
abbrev pub AreImported : (Text → Text → Bool) → Text → List Entry → Type 0
AreImported imported calendar entries = AreTexts (λ text. IsTrue (imported calendar text)) (map spelling entries)

-- whatever is known is what the tables have, and its rows can stand
pub record Recalls (memory : Memory) (tables : Tables) (cannot_stand : Asked → Bool) : Type 0 where
  pub nexts : Knows (known_next memory) (Has tables.next) (λ panel. cannot_stand (NextOf panel))
  -- each row is judged by its own number, and the panel by none
  pub free : Knows (known_free memory) (AreFreeIn tables.row cannot_stand) (λ panel. false)
  pub arrays : Knows (known_array memory) (Has tables.places) (λ point. cannot_stand (ArrayOf point))
  pub shown : Knows (known_shown memory) (Has tables.shown) (λ schedule. cannot_stand (ShownBy schedule))
  pub entries : Knows (known_entries memory) (AreImported tables.imported) (λ calendar. cannot_stand (EntriesOf calendar))
  pub last_tick : (last : Option ℤ) → memory.last_tick ≡ Some last → (tables.last_tick ≡ last) × (cannot_stand LastTick ≡ false)
