-- What the questions on each table tell.
use Rattle.std.proofs.Common.{Bool, true, false, [], ◌∷◌, codes, refl, subst}
use Rattle.sqlite_value.specs.Order.{Row, column}
use Rattle.sqlite_rules.specs.Lists.{Has}
use Rattle.sqlite_rules.proofs.ListLemmas.{all_has}
use Rattle.sqlite_schema.specs.declared.schema.Constraint.{Constraint}
use Rattle.sqlite_schema.specs.declared.schema.Constraint.TheVariants.{Datatype, NotNull}
use Rattle.sqlite_schema.specs.declared.schema.Kind.TheVariants as kind
use Rattle.sqlite_schema.specs.Rules.{Keeps}
use Rattle.sqlite.specs.Effect.{Database}
use Rattle.store_sql_rows.specs.Schema.{column_of, command_table, command_tree, desk_schema, imported_table, imported_tree, panel_table, panel_tree, place_table, place_tree, shown_table, shown_tree}
use Rattle.store_sql_rows.specs.Ours.{AreOwn}
use Rattle.store_sql_rows.proofs.TypeLemmas.{IsFilled, first_filled, second_filled}
use Rattle.store_sql.specs.Asking.{FindsNone, Joins}
use Rattle.store_sql.specs.Fitting.{IsFitting}
use Rattle.store_sql.specs.Own.{TellsOf}
use Rattle.store_sql.proofs.OwnLemmas.{numbers_tied, one_differs, one_key, own_reported, texts_tied, tie_one, tie_two, two_differ, two_key}
use Rattle.store_sql.proofs.Questions.{differ, differs}
use Rattle.store_sql.proofs.Texts.{command_apart_is, command_apart_text, command_numbered_is, command_numbered_text, imported_apart_is, imported_apart_text, imported_numbered_is, imported_numbered_text, panel_apart_is, panel_apart_text, panel_numbered_is, panel_numbered_text, place_apart_is, place_apart_text, place_numbered_is, place_numbered_text, shown_apart_is, shown_apart_text, shown_numbered_is, shown_numbered_text}

ruled : (rule : Constraint) (db : Database) → IsFitting db → Keeps rule desk_schema db.trees
ruled rule db fit = subst (λ s. Keeps rule s db.trees) fit.schema_is (fit.sound.obeys.rules rule)

panel_first : (db : Database) → IsFitting db → (row : Row) → Has (db.trees panel_tree) row → IsFilled kind.Text (column row 1)
panel_first db fit row h =
    let typed = all_has _ (db.trees panel_tree) row (ruled Datatype db fit).1.0 h in
    let present = all_has _ (db.trees panel_tree) row (ruled NotNull db fit).1.0 h in
    first_filled panel_table (codes "name") kind.Text (column_of (codes "next") kind.Integer true ∷ []) refl refl db.trees row typed present

pub panel_reported : (own : Bool) (db : Database) → IsFitting db → Joins (FindsNone panel_numbered_text) (FindsNone panel_apart_text) own db
    → TellsOf panel_tree (AreOwn (1 ∷ [])) own db
panel_reported own db fit h =
    own_reported panel_numbered_text panel_apart_text panel_tree (differs 1) tie_one (1 ∷ []) panel_numbered_is panel_apart_is
    one_differs own db
    (one_key (db.trees panel_tree) (texts_tied 1 (db.trees panel_tree) (panel_first db fit))) h

command_first : (db : Database) → IsFitting db → (row : Row) → Has (db.trees command_tree) row → IsFilled kind.Text (column row 1)
command_first db fit row h =
    let typed = all_has _ (db.trees command_tree) row (ruled Datatype db fit).1.1.0 h in
    let present = all_has _ (db.trees command_tree) row (ruled NotNull db fit).1.1.0 h in
    first_filled command_table (codes "panel") kind.Text
    (column_of (codes "number") kind.Integer true ∷ column_of (codes "point") kind.Text true
    ∷ column_of (codes "priority") kind.Integer true ∷ column_of (codes "value") kind.Integer false
    ∷ column_of (codes "state") kind.Integer true ∷ column_of (codes "a") kind.Integer false
    ∷ column_of (codes "b") kind.Integer false ∷ []) refl refl db.trees row typed present

command_second : (db : Database) → IsFitting db → (row : Row) → Has (db.trees command_tree) row → IsFilled kind.Integer (column row 2)
command_second db fit row h =
    let typed = all_has _ (db.trees command_tree) row (ruled Datatype db fit).1.1.0 h in
    let present = all_has _ (db.trees command_tree) row (ruled NotNull db fit).1.1.0 h in
    second_filled command_table (column_of (codes "panel") kind.Text true) (codes "number") kind.Integer
    (column_of (codes "point") kind.Text true ∷ column_of (codes "priority") kind.Integer true
    ∷ column_of (codes "value") kind.Integer false ∷ column_of (codes "state") kind.Integer true
    ∷ column_of (codes "a") kind.Integer false ∷ column_of (codes "b") kind.Integer false ∷ []) refl refl db.trees row typed present

pub command_reported : (own : Bool) (db : Database) → IsFitting db
    → Joins (FindsNone command_numbered_text) (FindsNone command_apart_text) own db → TellsOf command_tree (AreOwn (1 ∷ 2 ∷ [])) own db
command_reported own db fit h =
    own_reported command_numbered_text command_apart_text command_tree (differ 1 2) tie_two (1 ∷ 2 ∷ []) command_numbered_is
    command_apart_is two_differ own db
    (two_key (db.trees command_tree) (texts_tied 1 (db.trees command_tree) (command_first db fit))
    (numbers_tied 2 (db.trees command_tree) (command_second db fit))) h

place_first : (db : Database) → IsFitting db → (row : Row) → Has (db.trees place_tree) row → IsFilled kind.Text (column row 1)
place_first db fit row h =
    let typed = all_has _ (db.trees place_tree) row (ruled Datatype db fit).1.1.1.0 h in
    let present = all_has _ (db.trees place_tree) row (ruled NotNull db fit).1.1.1.0 h in
    first_filled place_table (codes "point") kind.Text
    (column_of (codes "priority") kind.Integer true ∷ column_of (codes "value") kind.Integer true ∷ []) refl refl db.trees row
    typed present

place_second : (db : Database) → IsFitting db → (row : Row) → Has (db.trees place_tree) row → IsFilled kind.Integer (column row 2)
place_second db fit row h =
    let typed = all_has _ (db.trees place_tree) row (ruled Datatype db fit).1.1.1.0 h in
    let present = all_has _ (db.trees place_tree) row (ruled NotNull db fit).1.1.1.0 h in
    second_filled place_table (column_of (codes "point") kind.Text true) (codes "priority") kind.Integer
    (column_of (codes "value") kind.Integer true ∷ []) refl refl db.trees row typed present

pub place_reported : (own : Bool) (db : Database) → IsFitting db → Joins (FindsNone place_numbered_text) (FindsNone place_apart_text) own db
    → TellsOf place_tree (AreOwn (1 ∷ 2 ∷ [])) own db
place_reported own db fit h =
    own_reported place_numbered_text place_apart_text place_tree (differ 1 2) tie_two (1 ∷ 2 ∷ []) place_numbered_is place_apart_is
    two_differ own db
    (two_key (db.trees place_tree) (texts_tied 1 (db.trees place_tree) (place_first db fit))
    (numbers_tied 2 (db.trees place_tree) (place_second db fit))) h

shown_first : (db : Database) → IsFitting db → (row : Row) → Has (db.trees shown_tree) row → IsFilled kind.Text (column row 1)
shown_first db fit row h =
    let typed = all_has _ (db.trees shown_tree) row (ruled Datatype db fit).1.1.1.1.0 h in
    let present = all_has _ (db.trees shown_tree) row (ruled NotNull db fit).1.1.1.1.0 h in
    first_filled shown_table (codes "schedule") kind.Text (column_of (codes "value") kind.Integer false ∷ []) refl refl db.trees row
    typed present

pub shown_reported : (own : Bool) (db : Database) → IsFitting db → Joins (FindsNone shown_numbered_text) (FindsNone shown_apart_text) own db
    → TellsOf shown_tree (AreOwn (1 ∷ [])) own db
shown_reported own db fit h =
    own_reported shown_numbered_text shown_apart_text shown_tree (differs 1) tie_one (1 ∷ []) shown_numbered_is shown_apart_is
    one_differs own db
    (one_key (db.trees shown_tree) (texts_tied 1 (db.trees shown_tree) (shown_first db fit))) h

imported_first : (db : Database) → IsFitting db → (row : Row) → Has (db.trees imported_tree) row → IsFilled kind.Text (column row 1)
imported_first db fit row h =
    let typed = all_has _ (db.trees imported_tree) row (ruled Datatype db fit).1.1.1.1.1.0 h in
    let present = all_has _ (db.trees imported_tree) row (ruled NotNull db fit).1.1.1.1.1.0 h in
    first_filled imported_table (codes "calendar") kind.Text (column_of (codes "entry") kind.Text true ∷ []) refl refl db.trees row
    typed present

imported_second : (db : Database) → IsFitting db → (row : Row) → Has (db.trees imported_tree) row → IsFilled kind.Text (column row 2)
imported_second db fit row h =
    let typed = all_has _ (db.trees imported_tree) row (ruled Datatype db fit).1.1.1.1.1.0 h in
    let present = all_has _ (db.trees imported_tree) row (ruled NotNull db fit).1.1.1.1.1.0 h in
    second_filled imported_table (column_of (codes "calendar") kind.Text true) (codes "entry") kind.Text ([]) refl refl db.trees row
    typed present

pub imported_reported : (own : Bool) (db : Database) → IsFitting db
    → Joins (FindsNone imported_numbered_text) (FindsNone imported_apart_text) own db → TellsOf imported_tree (AreOwn (1 ∷ 2 ∷ [])) own db
imported_reported own db fit h =
    own_reported imported_numbered_text imported_apart_text imported_tree (differ 1 2) tie_two (1 ∷ 2 ∷ []) imported_numbered_is
    imported_apart_is two_differ own db
    (two_key (db.trees imported_tree) (texts_tied 1 (db.trees imported_tree) (imported_first db fit))
    (texts_tied 2 (db.trees imported_tree) (imported_second db fit))) h
