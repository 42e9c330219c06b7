-- The names in the cells of the six tables are texts.
use Rattle.std.proofs.Common.{◌≡◌, List, ℕ, refl, sym, true≢false}
use Rattle.sqlite_value.specs.declared.value.Value.{Value}
use Rattle.sqlite_value.specs.declared.value.Value.TheVariants.{Blob, Int, Null, Real, Text}
use Rattle.sqlite_value.specs.Order.{Row, column}
use Rattle.sqlite_schema.specs.declared.schema.Kind.TheVariants as kind
use Rattle.sqlite_rules.specs.Lists.{Has}
use Rattle.sqlite.specs.Effect.{Database}
use Rattle.store_sql_rows.specs.Ours.{IsOurs, kept_in}
use Rattle.store_sql_rows.proofs.TypeLemmas.{IsFilled}
use Rattle.store_sql_rows.proofs.CommandLemmas.{command_cells}
use Rattle.store_sql_rows.proofs.ImportedLemmas.{imported_cells}
use Rattle.store_sql_rows.proofs.PanelLemmas.{panel_cells}
use Rattle.store_sql_rows.proofs.PlaceLemmas.{place_cells}
use Rattle.store_sql_rows.proofs.ShownLemmas.{shown_cells}

text_in : (cell : Value) → IsFilled kind.Text cell → (text : List ℕ) × (cell ≡ Text text)
text_in (Text text) is = (text, refl)
text_in Null is = absurd (true≢false is.filled)
text_in (Int n) is = absurd (true≢false (sym is.of))
text_in (Real x) is = absurd (true≢false (sym is.of))
text_in (Blob b) is = absurd (true≢false (sym is.of))

-- each row has a text in its first column
abbrev pub AreTexted : List Row → Type 0
AreTexted rows = (row : Row) → Has rows row → (text : List ℕ) × (column row 1 ≡ Text text)

pub panel_texted : (db : Database) → IsOurs db → AreTexted (kept_in db.trees).panel
panel_texted db ours row h = text_in (column row 1) (panel_cells db ours row h)

pub command_texted : (db : Database) → IsOurs db → AreTexted (kept_in db.trees).command
command_texted db ours row h = text_in (column row 1) (command_cells db ours row h).0

pub place_texted : (db : Database) → IsOurs db → AreTexted (kept_in db.trees).place
place_texted db ours row h = text_in (column row 1) (place_cells db ours row h).0

pub shown_texted : (db : Database) → IsOurs db → AreTexted (kept_in db.trees).shown
shown_texted db ours row h = text_in (column row 1) (shown_cells db ours row h)

pub imported_texted : (db : Database) → IsOurs db → AreTexted (kept_in db.trees).imported
imported_texted db ours row h = text_in (column row 1) (imported_cells db ours row h).0
