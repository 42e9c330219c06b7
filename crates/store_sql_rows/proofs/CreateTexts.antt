-- What the texts of the tables mean.
use Rattle.std.proofs.Common.{refl}
use Rattle.sqlite.specs.Listing.{understood}
use Rattle.sqlite_tied.specs.Compute.{everything}
use Rattle.store_sql_rows.specs.Schema.{desk_table, panel_table, command_table, place_table, shown_table, imported_table, schema_0, schema_1, schema_2, schema_3, schema_4, schema_5}
use Rattle.store_sql_rows.specs.Making.{MakesTable}
use Rattle.store_sql_rows.specs.Texts.{create_desk, create_panel, create_command, create_place, create_shown, create_imported}

pub makes_desk : MakesTable schema_0 create_desk desk_table
unfolding understood everything
makes_desk = record { command = refl; statement = refl; defined = refl; plain = (refl, refl) }

pub makes_panel : MakesTable schema_1 create_panel panel_table
unfolding understood everything
makes_panel = record { command = refl; statement = refl; defined = refl; plain = (refl, refl) }

pub makes_command : MakesTable schema_2 create_command command_table
unfolding understood everything
makes_command = record { command = refl; statement = refl; defined = refl; plain = (refl, refl) }

pub makes_place : MakesTable schema_3 create_place place_table
unfolding understood everything
makes_place = record { command = refl; statement = refl; defined = refl; plain = (refl, refl) }

pub makes_shown : MakesTable schema_4 create_shown shown_table
unfolding understood everything
makes_shown = record { command = refl; statement = refl; defined = refl; plain = (refl, refl) }

pub makes_imported : MakesTable schema_5 create_imported imported_table
unfolding understood everything
makes_imported = record { command = refl; statement = refl; defined = refl; plain = (refl, refl) }
