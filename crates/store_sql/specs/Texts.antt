-- Texts that are read one after the other, by rising order of their bytes.
use Rattle.std.specs.Prelude.{◌≡◌, List, [], ◌∷◌, ◌++◌, Option, Some, None, IsTrue, true}
use Rattle.std.specs.declared.cmp.Ordering.TheVariants.{Less}
use Rattle.std.specs.Cmp.Lexicographic.{slice_cmp}
use Rattle.std.specs.List.{Contains}
use Rattle.std.specs.List.Sorted.{IsStrictlySortedBy}
use Rattle.std.specs.Ordering.{nat_cmp}
use Rattle.dates.specs.declared.entry.Entry.{Entry}
use Rattle.dates.specs.Entry.{spelling}
use Rattle.sqlite_rules.specs.Lists.{Has}
use Rattle.sqlite_value.specs.declared.value.Value.TheVariants.{Text as TextCell}
use Rattle.sqlite_value.specs.Order.{Row, column}
use Rattle.store_sql_rows.specs.Cells.{entry_in, is_text}
use Rattle.store_sql_rows.specs.Stored.{Kept, tables_in}
use Rattle.store.specs.Tables.{Tables}
use Rattle.points.specs.Texts.{Text}

-- the first text comes before the other
abbrev pub IsBefore : Text → Text → Type 0
IsBefore text other = slice_cmp nat_cmp text other ≡ Less

-- the least text after another
abbrev pub after : Text → Text
after text = text ++ 0 ∷ []

-- another text or one after it, and nothing holds of a text between
pub record IsTextAt (holds : Text → Type 0) (from text : Text) : Type 0 where
  pub past : IsBefore text from → ⊥
  pub least : (other : Text) → holds other → (IsBefore other from → ⊥) → IsBefore other text → ⊥

-- the next text from another on that may hold: before it there is none, or there is none at all
abbrev pub IsNextText : (Text → Type 0) → Text → Option Text → Type 0
IsNextText holds from None = (other : Text) → holds other → (IsBefore other from → ⊥) → ⊥
IsNextText holds from (Some text) = IsTextAt holds from text

-- the texts before one, of which something holds
pub record AreTextsBefore (holds : Text → Type 0) (from : Text) (texts : List Text) : Type 0 where
  pub rise : IsStrictlySortedBy (slice_cmp nat_cmp) texts
  pub below : (text : Text) → Contains texts text → IsBefore text from
  pub each : (text : Text) → Contains texts text → holds text
  pub all : (text : Text) → holds text → IsBefore text from → Contains texts text

-- an entry's text is imported into a calendar
abbrev pub IsImported : Tables → Text → Text → Type 0
IsImported tables calendar text = IsTrue (tables.imported calendar text)

-- a row of a calendar has this text for its entry
abbrev pub HasEntry : Kept → Text → Text → Type 0
HasEntry kept calendar text =
    (row : Row) × Has kept.imported row × (is_text calendar (column row 1) ≡ true) × (column row 2 ≡ TextCell text)

-- an entry of a calendar, and no row of it has a text between one and the entry's own
pub record IsEntryAt (kept : Kept) (calendar from : Text) (entry : Entry) : Type 0 where
  pub at : IsTextAt (HasEntry kept calendar) from (spelling entry)
  pub here : IsImported (tables_in kept) calendar (spelling entry)
  pub reads : entry_in (TextCell (spelling entry)) ≡ Some entry

-- the next entry of a calendar from a text on
abbrev pub IsNextEntry : Kept → Text → Text → Option Entry → Type 0
IsNextEntry kept calendar from None = IsNextText (HasEntry kept calendar) from None
IsNextEntry kept calendar from (Some entry) = IsEntryAt kept calendar from entry
