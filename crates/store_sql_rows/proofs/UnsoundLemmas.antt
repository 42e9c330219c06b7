-- Rows of which one that is asked for cannot stand are not sound.
use Rattle.std.proofs.Common.{◌≡◌, Bool, true, false, not, List, Option, is_some, refl, ap}
use Rattle.std.specs.List.{list_all}
use Rattle.std.proofs.lemmas.Bool.{and_parts, both_ways, false_from_ne_true, or_from}
use Rattle.sqlite_value.specs.Order.{Row, column}
use Rattle.store.specs.Asked.{Asked}
use Rattle.store.specs.Asked.Asked.{AnyName, ArrayOf, EntriesOf, LastTick, NextOf, RowOf, ShownBy}
use Rattle.store_sql_rows.specs.Broken.{cannot_stand_in, has_nameless, is_nameless, is_unnumbered}
use Rattle.store_sql_rows.specs.Cells.{is_text, name_in}
use Rattle.store_sql_rows.specs.Rows.{command_said, imported_said, next_said, of_command, of_panel, of_schedule, place_said, shown_said}
use Rattle.store_sql_rows.specs.Rows.{same_command, same_entry, same_panel, same_place, same_schedule}
use Rattle.store_sql_rows.specs.Stored.{Kept, can_stand, is_sound_in}
use Rattle.store_sql_rows.proofs.BrokenLemmas.{none_unsaid, picked_said, picked_stand}
use Rattle.store_sql_rows.proofs.NamelessLemmas.{not_some, unnumbered_silent}
use Rattle.store_sql_rows.proofs.StoredLemmas.{AreSound, sound-parts}

all_said : {Item : Type 0} (said : Row → Option Item) (same : Item → Item → Bool) (rows : List Row) → can_stand said same rows ≡ true
    → list_all (λ row. is_some (said row)) rows ≡ true
all_said said same rows stand = (and_parts (list_all (λ row. is_some (said row)) rows) _ stand).0

module _ (kept : Kept) (are : AreSound kept) where
  named : has_nameless kept ≡ false
  named =
      or_from _ _ (none_unsaid next_said is_nameless (λ row is. rw (not_some (name_in (column row 1)) is) refl) kept.panel
      (all_said next_said same_panel kept.panel are.panel))
      (or_from _ _ (none_unsaid command_said is_nameless (λ row is. rw (not_some (name_in (column row 1)) is) refl) kept.command
      (all_said command_said same_command kept.command are.command))
      (or_from _ _ (none_unsaid place_said is_nameless (λ row is. rw (not_some (name_in (column row 1)) is) refl) kept.place
      (all_said place_said same_place kept.place are.place))
      (or_from _ _ (none_unsaid shown_said is_nameless (λ row is. rw (not_some (name_in (column row 1)) is) refl) kept.shown
      (all_said shown_said same_schedule kept.shown are.shown))
      (or_from _ _ (none_unsaid imported_said is_nameless (λ row is. rw (not_some (name_in (column row 1)) is) refl) kept.imported
      (all_said imported_said same_entry kept.imported are.imported))
      (none_unsaid command_said is_unnumbered unnumbered_silent kept.command
      (all_said command_said same_command kept.command are.command))))))

  all_stand : (asked : Asked) → cannot_stand_in kept asked ≡ false
  all_stand (NextOf panel) = picked_stand next_said same_panel (of_panel panel) kept.panel are.panel
  all_stand (RowOf panel number) = picked_stand command_said same_command (of_command panel number) kept.command are.command
  all_stand (ArrayOf point) = picked_stand place_said same_place (λ row. is_text point (column row 1)) kept.place are.place
  all_stand (ShownBy schedule) = picked_stand shown_said same_schedule (of_schedule schedule) kept.shown are.shown
  all_stand (EntriesOf calendar) =
      picked_said imported_said same_entry (λ row. is_text calendar (column row 1)) kept.imported are.imported
  all_stand LastTick = ap not are.desk
  all_stand AnyName = named

pub unsound : (kept : Kept) (asked : Asked) → cannot_stand_in kept asked ≡ true → is_sound_in kept ≡ false
unsound kept asked broken =
    false_from_ne_true _ (λ is. both_ways (cannot_stand_in kept asked) (all_stand kept (sound-parts kept is) asked) broken)
