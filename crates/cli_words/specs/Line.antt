-- What the words of a command line ask of the program, by `clap`'s own reading of them.
use Rattle.std.specs.Prelude.{◌&&◌, false, true, Bool, ℕ, ℤ, negsuc, pos, List, Option, None, Some, codes}
use Rattle.std.specs.Prelude.{if◌then◌else◌, [], map, option_and_then, option_map, unwrap_or}
use Rattle.std.specs.Borrow.{Bor}
use Rattle.std.specs.Str.{bytes_eq}
use Rattle.std.specs.Str.Parse.{signed_digits_value, without_leading_sign}
use Rattle.clap.specs.ValueTests.{fits_i64, is_numeral}
use Rattle.clap.specs.declared.builder.action.ArgAction.TheVariants.{Append, SetTrue}
use Rattle.std.specs.Prelude.{◌≡◌, IfOk, Result}
use Rattle.clap.specs.declared.builder.command.Command.{Command}
use Rattle.clap.specs.declared.builder.command.Command.TheViews.{out-Command as fields_of}
use Rattle.clap.specs.Words.{App, Row, Rule, Text, all_of, app_of, first_of, new_app, new_rule, subcommand_of}
use Rattle.clap.specs.Words.{with_rule, with_subcommand}
use Rattle.clap.specs.Simple.{on_top}
use Rattle.clap.specs.declared.builder.value_parser.ValueParser.TheVariants as vp
use Rattle.cli_words.specs.declared.line.Line.{Line}
use Rattle.cli_words.specs.declared.line.Line.TheVariants as line

-- ---- the commands that the program has

-- an argument that has to be there, by its place among the words; its value has a name in the help
abbrev pub needed_rule : Text → Rule
needed_rule id = record (new_rule id) { required = true; value_names = 1 }

-- the same, whose value `clap` has to read as an i64
abbrev pub number_rule : Text → Rule
number_rule id = record (needed_rule id) {
  parser = Some (vp.Signed (negsuc 9223372036854775807) (pos 9223372036854775807));
}

-- a subcommand that takes FILE
abbrev pub file_app : Text → App
file_app name = with_rule (new_app name) (needed_rule (codes "file"))

-- a subcommand that takes FILE, DB and one argument more
abbrev pub database_app : Text → Rule → App
database_app name last = with_rule (with_rule (file_app name) (needed_rule (codes "database"))) last

-- the database that is looked over, which may be missing
abbrev pub looked_over_rule : Rule
looked_over_rule = record (new_rule (codes "database")) { value_names = 1 }

-- a flag, by its name
abbrev pub flag_rule : Text → Rule
flag_rule name = record (new_rule name) { long = Some name; action = Some SetTrue }

-- the path of a record
abbrev pub record_rule : Rule
record_rule = record (new_rule (codes "record")) { long = Some (codes "record"); value_names = 1 }

-- `check FILE [DB] [--explain] [--hints] [--record PATH]`
abbrev pub check_app : App
check_app = with_rule (with_rule (with_rule (with_rule (file_app (codes "check")) looked_over_rule)
    (flag_rule (codes "explain"))) (flag_rule (codes "hints"))) record_rule

-- an option that may stand many times, each with a value
abbrev pub rename_rule : Rule
rename_rule = record (new_rule (codes "rename")) { long = Some (codes "rename"); action = Some Append; value_names = 1 }

-- `adopt FILE DB NEW [--rename OLD=NEW].. [--dry-run]`
abbrev pub adopt_app : App
adopt_app = with_rule (with_rule (database_app (codes "adopt") (needed_rule (codes "made"))) rename_rule) (flag_rule (codes "dry-run"))

-- `rebuild FILE RECORD DB`
abbrev pub rebuild_app : App
rebuild_app = with_rule (with_rule (file_app (codes "rebuild")) (needed_rule (codes "record"))) (needed_rule (codes "database"))

-- `describe FILE`
abbrev pub describe_app : App
describe_app = file_app (codes "describe")

-- a subcommand that takes FILE and DELIVERIES
abbrev pub deliveries_app : Text → App
deliveries_app name = with_rule (file_app name) (needed_rule (codes "deliveries"))

-- a moment up to which a list is read
abbrev pub until_rule : Rule
until_rule = record (new_rule (codes "until")) { long = Some (codes "until"); value_names = 1 }

-- a moment from which on a list is told
abbrev pub from_rule : Rule
from_rule = record (new_rule (codes "from")) { long = Some (codes "from"); value_names = 1 }

-- `replay FILE DELIVERIES [--until AT]`
abbrev pub replay_app : App
replay_app = with_rule (deliveries_app (codes "replay")) until_rule

-- `why FILE DELIVERIES POINT [--until AT]`
abbrev pub why_app : App
why_app = with_rule (with_rule (deliveries_app (codes "why")) (needed_rule (codes "point"))) until_rule

-- `overrides FILE DELIVERIES [--from AT] [--until AT]`
abbrev pub overrides_app : App
overrides_app = with_rule (with_rule (deliveries_app (codes "overrides")) from_rule) until_rule

-- `straighten FILE DELIVERIES`
abbrev pub straighten_app : App
straighten_app = deliveries_app (codes "straighten")

-- `import FILE DB CSV [--dry-run] [--record PATH]`
abbrev pub import_app : App
import_app = with_rule (with_rule (database_app (codes "import") (needed_rule (codes "holidays"))) (flag_rule (codes "dry-run"))) record_rule

-- `tick FILE DB AT [--record PATH]`
abbrev pub tick_app : App
tick_app = with_rule (database_app (codes "tick") (number_rule (codes "at"))) record_rule

-- `report FILE DB DATE`
abbrev pub report_app : App
report_app = database_app (codes "report") (needed_rule (codes "date"))

-- an option with a number from 1 to 1,000,000
abbrev pub requests_rule : Rule
requests_rule = record (new_rule (codes "requests")) {
  long = Some (codes "requests");
  parser = Some (vp.Unsigned 1 1_000_000);
  value_names = 1;
}

-- the last word of `days`, which is there if a database is
abbrev pub third_rule : Rule
third_rule = record (new_rule (codes "third")) { value_names = 1 }

-- `days FILE [DB] FROM TO`
abbrev pub days_app : App
days_app = with_rule (with_rule (with_rule (file_app (codes "days")) (needed_rule (codes "first"))) (needed_rule (codes "second"))) third_rule

-- `serve FILE DB ADDRESS [--requests N] [--clock] [--record PATH]`
abbrev pub serve_app : App
serve_app = with_rule (with_rule (with_rule
    (database_app (codes "serve") (needed_rule (codes "address"))) requests_rule) (flag_rule (codes "clock"))) record_rule

-- `desk`, which has a version, and needs a subcommand
abbrev pub desk_app : App
desk_app =
    with_subcommand (with_subcommand (with_subcommand (with_subcommand (with_subcommand (with_subcommand (with_subcommand
    (with_subcommand (with_subcommand (with_subcommand (with_subcommand (with_subcommand (with_subcommand
    (on_top (λ s. record s { has_version = true; subcommand_required = true }) (new_app (codes "desk")))
    check_app.top) describe_app.top) replay_app.top) why_app.top) overrides_app.top) straighten_app.top) import_app.top)
    tick_app.top) report_app.top) serve_app.top) adopt_app.top) rebuild_app.top) days_app.top

-- what is made, if memory is had, is the command `app`, with no argument for its subcommands too
abbrev pub Makes : {E : Type 0} → App → Result Command E → Type 0
Makes app r = IfOk r (λ c. (app_of c ≡ app) × ((fields_of c).has_globals ≡ false))

-- ---- what they ask

-- what a line asks, with the texts that it names
pub data LineValue : Type 0 where
  Check : (file : Text) → (database : Option Text) → (explain hints : Bool) → (of : Option Text) → LineValue
  Adopt : (file : Text) → (database : Text) → (made : Text) → (renamings : List Text) → (dry_run : Bool) → LineValue
  Rebuild : (file : Text) → (of : Text) → (made : Text) → LineValue
  Describe : (file : Text) → LineValue
  Replay : (file : Text) → (deliveries : Text) → (until : Option Text) → LineValue
  Why : (file : Text) → (deliveries : Text) → (point : Text) → (until : Option Text) → LineValue
  Overrides : (file deliveries : Text) → (from until : Option Text) → LineValue
  Straighten : (file : Text) → (deliveries : Text) → LineValue
  Import : (file : Text) → (database : Text) → (holidays : Text) → (dry_run : Bool) → (kept : Option Text) → LineValue
  Tick : (file : Text) → (database : Text) → (at : ℤ) → (kept : Option Text) → LineValue
  Report : (file : Text) → (database : Text) → (date : Text) → LineValue
  Days : (file : Text) → (database : Option Text) → (first : Text) → (last : Text) → LineValue
  Serve : (file : Text) → (database : Text) → (address : Text) → (requests : Option ℕ) → (clock : Bool) → (kept : Option Text) → LineValue

-- the text that was among the words, if one was
abbrev pub text_of : Option (Bor Text) → Option Text
text_of text = option_map (λ it. it.now) text

abbrev pub line_value : Line → LineValue
line_value (line.Check file database explain hints of) = Check file.now (text_of database) explain hints (text_of of)
line_value (line.Adopt file database made renamings dry_run) =
    Adopt file.now database.now made.now (map (λ text. text.now) renamings.items) dry_run
line_value (line.Rebuild file of made) = Rebuild file.now of.now made.now
line_value (line.Describe file) = Describe file.now
line_value (line.Replay file deliveries until) = Replay file.now deliveries.now (text_of until)
line_value (line.Why file deliveries point until) = Why file.now deliveries.now point.now (text_of until)
line_value (line.Overrides file deliveries from until) = Overrides file.now deliveries.now (text_of from) (text_of until)
line_value (line.Straighten file deliveries) = Straighten file.now deliveries.now
line_value (line.Import file database holidays dry_run kept) = Import file.now database.now holidays.now dry_run (text_of kept)
line_value (line.Tick file database at kept) = Tick file.now database.now at (text_of kept)
line_value (line.Report file database date) = Report file.now database.now date.now
line_value (line.Days file database first last) = Days file.now (text_of database) first.now last.now
line_value (line.Serve file database address requests clock kept) =
    Serve file.now database.now address.now requests clock (text_of kept)

-- the number that a text writes in decimal digits, if it is an i64
abbrev pub moment_in : Text → Option ℤ
moment_in text =
    let at = signed_digits_value 10 text in
    if is_numeral (without_leading_sign text) && fits_i64 at then Some at else None

-- the same where it is not below 0
abbrev pub count_of : ℤ → Option ℕ
count_of (pos n) = Some n
count_of (negsuc n) = None

abbrev pub count_in : Text → Option ℕ
count_in text = option_and_then count_of (moment_in text)

-- whether a flag was among the words
abbrev pub is_set : Option Text → Bool
is_set (Some text) = bytes_eq text (codes "true")
is_set None = false

abbrev pub check_in : List Row → Option LineValue
check_in rows = option_map (λ file. Check file (first_of (codes "database") rows) (is_set (first_of (codes "explain") rows))
    (is_set (first_of (codes "hints") rows)) (first_of (codes "record") rows)) (first_of (codes "file") rows)

-- the values of an option that may stand many times
abbrev pub values_in : Text → List Row → List Text
values_in id rows = unwrap_or (all_of id rows) []

abbrev pub adopt_in : List Row → Option LineValue
adopt_in rows = option_and_then (λ file. option_and_then (λ database.
    option_map (λ made. Adopt file database made (values_in (codes "rename") rows) (is_set (first_of (codes "dry-run") rows)))
    (first_of (codes "made") rows)) (first_of (codes "database") rows)) (first_of (codes "file") rows)

abbrev pub rebuild_in : List Row → Option LineValue
rebuild_in rows = option_and_then (λ file. option_and_then (λ of.
    option_map (λ made. Rebuild file of made)
    (first_of (codes "database") rows)) (first_of (codes "record") rows)) (first_of (codes "file") rows)

abbrev pub describe_in : List Row → Option LineValue
describe_in rows = option_map Describe (first_of (codes "file") rows)

abbrev pub replay_in : List Row → Option LineValue
replay_in rows = option_and_then (λ file. option_map (λ deliveries. Replay file deliveries (first_of (codes "until") rows))
    (first_of (codes "deliveries") rows)) (first_of (codes "file") rows)

abbrev pub why_in : List Row → Option LineValue
why_in rows = option_and_then (λ file. option_and_then (λ deliveries. option_map (λ point. Why file deliveries point (first_of (codes "until") rows))
    (first_of (codes "point") rows)) (first_of (codes "deliveries") rows)) (first_of (codes "file") rows)

abbrev pub overrides_in : List Row → Option LineValue
overrides_in rows = option_and_then (λ file. option_map (λ deliveries.
    Overrides file deliveries (first_of (codes "from") rows) (first_of (codes "until") rows))
    (first_of (codes "deliveries") rows)) (first_of (codes "file") rows)

abbrev pub straighten_in : List Row → Option LineValue
straighten_in rows = option_and_then (λ file. option_map (λ deliveries. Straighten file deliveries)
    (first_of (codes "deliveries") rows)) (first_of (codes "file") rows)

abbrev pub import_in : List Row → Option LineValue
import_in rows = option_and_then (λ file. option_and_then (λ database.
    option_map (λ holidays. Import file database holidays (is_set (first_of (codes "dry-run") rows)) (first_of (codes "record") rows))
    (first_of (codes "holidays") rows)) (first_of (codes "database") rows)) (first_of (codes "file") rows)

abbrev pub tick_in : List Row → Option LineValue
tick_in rows = option_and_then (λ file. option_and_then (λ database.
    option_map (λ at. Tick file database at (first_of (codes "record") rows))
    (option_and_then moment_in (first_of (codes "at") rows)))
    (first_of (codes "database") rows)) (first_of (codes "file") rows)

abbrev pub report_in : List Row → Option LineValue
report_in rows = option_and_then (λ file. option_and_then (λ database.
    option_map (λ date. Report file database date)
    (first_of (codes "date") rows)) (first_of (codes "database") rows)) (first_of (codes "file") rows)

-- three words are the database and the two days, two are the days
abbrev pub days_of : Text → Text → Text → Option Text → LineValue
days_of file first second (Some third) = Days file (Some first) second third
days_of file first second None = Days file None first second

abbrev pub days_in : List Row → Option LineValue
days_in rows = option_and_then (λ file. option_and_then (λ first.
    option_map (λ second. days_of file first second (first_of (codes "third") rows))
    (first_of (codes "second") rows)) (first_of (codes "first") rows)) (first_of (codes "file") rows)

abbrev pub serve_in : List Row → Option LineValue
serve_in rows = option_and_then (λ file. option_and_then (λ database.
    option_map (λ address. Serve file database address (option_and_then count_in (first_of (codes "requests") rows))
    (is_set (first_of (codes "clock") rows)) (first_of (codes "record") rows))
    (first_of (codes "address") rows)) (first_of (codes "database") rows)) (first_of (codes "file") rows)

-- what a subcommand's name and the rows of its arguments ask
abbrev pub asked_in : Text × List Row → Option LineValue
asked_in (name, rows) =
    if bytes_eq name (codes "adopt") then adopt_in rows
    else (if bytes_eq name (codes "rebuild") then rebuild_in rows
    else (if bytes_eq name (codes "days") then days_in rows
    else (if bytes_eq name (codes "check") then check_in rows
    else (if bytes_eq name (codes "describe") then describe_in rows
    else (if bytes_eq name (codes "replay") then replay_in rows
    else (if bytes_eq name (codes "why") then why_in rows
    else (if bytes_eq name (codes "overrides") then overrides_in rows
    else (if bytes_eq name (codes "straighten") then straighten_in rows
    else (if bytes_eq name (codes "import") then import_in rows
    else (if bytes_eq name (codes "tick") then tick_in rows
    else (if bytes_eq name (codes "report") then report_in rows
    else (if bytes_eq name (codes "serve") then serve_in rows else None))))))))))))

-- what the words ask, the program's name first
abbrev pub asked : List Text → Option LineValue
asked words = option_and_then asked_in (subcommand_of desk_app words)
