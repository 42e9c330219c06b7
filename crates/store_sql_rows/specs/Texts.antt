-- The texts of the statements.
use Rattle.std.specs.Prelude.{ℕ, List, codes}

abbrev pub create_desk : List ℕ
create_desk = codes "CREATE TABLE desk (id INTEGER PRIMARY KEY CHECK (id = 1), version INTEGER NOT NULL, last INTEGER) STRICT"

abbrev pub create_panel : List ℕ
create_panel = codes "CREATE TABLE panel (name TEXT PRIMARY KEY NOT NULL, next INTEGER NOT NULL CHECK (next >= 1)) STRICT"

abbrev pub create_command : List ℕ
create_command = codes "CREATE TABLE command (panel TEXT NOT NULL, number INTEGER NOT NULL, point TEXT NOT NULL, priority INTEGER NOT NULL, value INTEGER, state INTEGER NOT NULL CHECK (state >= 0 AND state <= 2), a INTEGER, b INTEGER, PRIMARY KEY (panel, number)) STRICT"

abbrev pub create_place : List ℕ
create_place = codes "CREATE TABLE place (point TEXT NOT NULL, priority INTEGER NOT NULL CHECK (priority >= 1 AND priority <= 16), value INTEGER NOT NULL, PRIMARY KEY (point, priority)) STRICT"

abbrev pub create_shown : List ℕ
create_shown = codes "CREATE TABLE shown (schedule TEXT PRIMARY KEY NOT NULL, value INTEGER) STRICT"

abbrev pub create_imported : List ℕ
create_imported = codes "CREATE TABLE imported (calendar TEXT NOT NULL, entry TEXT NOT NULL, PRIMARY KEY (calendar, entry)) STRICT"
