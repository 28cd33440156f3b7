-- The command lines of the programs, in clap's words: what a program knows, and what it reads.
use Rattle.std.specs.Prelude.{◌≡◌, ◌<◌, ℕ, Bool, ◌&&◌, ◌||◌, not, List, [], ◌∷◌, ◌++◌, Option, None, Some}
use Rattle.std.specs.Prelude.{true, false, codes, drop, find, is_some, length, map, unwrap_or}
use Rattle.std.specs.List.{All}
use Rattle.std.specs.Prelude.{option_and_then, option_map, slice_get}
use Rattle.std.specs.Str.{bytes_eq}
use Rattle.clap.specs.Words.{AddsArg, AddsInTurn, App, IsParsedFrom, Row, Rule, Text}
use Rattle.clap.specs.Words.{all_of, args_of, fault_of, first_of, first_value, matched_of}
use Rattle.clap.specs.Words.{found_of, groups_of, new_app, new_rule, with_rule}
use Rattle.clap.specs.Built.{FitsChain, IsPlain}
use Rattle.clap.specs.Simple.{on_top}
use Rattle.clap.specs.declared.builder.action.ArgAction.{ArgAction}
use Rattle.clap.specs.declared.builder.action.ArgAction.TheVariants.{Append, Help, Set, SetTrue, Version}
use Rattle.clap.specs.declared.builder.arg.Arg.{Arg}
use Rattle.clap.specs.declared.builder.command.Command.{Command}
use Rattle.clap.specs.declared.builder.command.Command.TheViews.{out-Command}
use Rattle.clap.specs.declared.error.kind.ErrorKind.TheVariants.{DisplayHelp, DisplayVersion}
use Rattle.clap.specs.declared.parser.matches.ArgMatches.{ArgMatches}
use Rattle.clap.specs.declared.parser.matches.ValueSource.{ValueSource}
use Rattle.clap.specs.declared.parser.matches.ValueSource.TheVariants.{CommandLine}
use Rattle.x_pieces.specs.declared.which.Which.{Which}
use Rattle.x_pieces.specs.declared.which.Which.TheVariants.{Header, Routines, Stubs, Table}
use Rattle.x_args.specs.declared.before_args.BeforeArgs.{BeforeArgs}
use Rattle.x_args.specs.declared.checking_args.CheckArgs.{CheckArgs}
use Rattle.x_args.specs.declared.dumping_args.DumpArgs.{DumpArgs}
use Rattle.x_args.specs.declared.dumping_args.Mode.{Mode}
use Rattle.x_args.specs.declared.dumping_args.Mode.TheVariants.{Stream, Message, Value}
use Rattle.x_args.specs.declared.editing_args.EditArgs.{EditArgs}
use Rattle.x_args.specs.declared.generating_args.GenArgs.{GenArgs}
use Rattle.x_args.specs.declared.serving_args.ServeArgs.{ServeArgs}

-- the id is neither empty nor one of clap's own
abbrev pub is_own : Text → Bool
is_own id = not (bytes_eq id []) && (not (bytes_eq id (codes "help")) && not (bytes_eq id (codes "version")))

-- a letter without a value
abbrev pub flag_rule : Text → Option ℕ → Rule
flag_rule id letter = record (new_rule id) { short = letter; action = Some SetTrue }

-- a letter with a value, which has a name
abbrev pub valued_rule : Text → Option ℕ → Rule
valued_rule id letter = record (new_rule id) { short = letter; value_names = 1; action = Some Set }

-- a word without a letter
abbrev pub request_rule : (id word : Text) → ArgAction → Rule
request_rule id word action = record (new_rule id) { long = Some word; action = Some action }

-- `--help`
abbrev pub help_rule : Rule
help_rule = request_rule (codes "asks_help") (codes "help") Help

-- `--version`
abbrev pub version_rule : Rule
version_rule = request_rule (codes "asks_version") (codes "version") Version

-- the ids of the two, which differ from those of clap's own
abbrev pub request_ids : List Text
request_ids = codes "asks_help" ∷ codes "asks_version" ∷ []

-- `-c`
abbrev pub routines_rule : Rule
routines_rule = flag_rule (codes "routines") (slice_get (codes "c") 0)

-- `-h`
abbrev pub header_rule : Rule
header_rule = flag_rule (codes "header") (slice_get (codes "h") 0)

-- `-l`
abbrev pub stubs_rule : Rule
stubs_rule = flag_rule (codes "stubs") (slice_get (codes "l") 0)

-- `-t`
abbrev pub table_rule : Rule
table_rule = flag_rule (codes "table") (slice_get (codes "t") 0)

-- `-o OUT`
abbrev pub output_rule : Rule
output_rule = valued_rule (codes "output") (slice_get (codes "o") 0)

-- `--explain`
abbrev pub explain_rule : Rule
explain_rule = request_rule (codes "explain") (codes "explain") SetTrue

-- `--plain`
abbrev pub plain_rule : Rule
plain_rule = request_rule (codes "plain") (codes "plain") SetTrue

-- `--strict`
abbrev pub strict_rule : Rule
strict_rule = request_rule (codes "strict") (codes "strict") SetTrue

-- `--known FILE`, as often as one likes
abbrev pub known_rule : Rule
known_rule =
    record (new_rule (codes "known")) { long = Some (codes "known"); value_names = 1; action = Some Append }

-- `--c-types`
abbrev pub c_types_rule : Rule
c_types_rule = request_rule (codes "c_types") (codes "c-types") SetTrue

-- `--foreign`
abbrev pub foreign_rule : Rule
foreign_rule = request_rule (codes "foreign") (codes "foreign") SetTrue

-- FILE, which has to be there
abbrev pub file_rule : Rule
file_rule = record (new_rule (codes "file")) { action = Some Set; required = true }

-- a command that knows nothing yet, not even clap's own `-h`
abbrev pub bare_app : Text → App
bare_app name = on_top (λ s. record s { disable_help_flag = true }) (new_app name)

-- a command that knows `--help` and `--version`, and no letter yet
abbrev pub plain_app : Text → App
plain_app name = with_rule (with_rule (bare_app name) help_rule) version_rule

-- the ids of the options for what stands before a text
abbrev pub before_ids : List Text
before_ids = codes "known" ∷ codes "c_types" ∷ codes "foreign" ∷ []

-- those of the options for how faults and clashes of names are reported
abbrev pub report_ids : List Text
report_ids = codes "explain" ∷ codes "plain" ∷ codes "strict" ∷ []

-- those of `--help`, `--version` and the letters of `rpcgen`
abbrev pub letter_ids : List Text
letter_ids = request_ids
    ++ codes "routines" ∷ codes "header" ∷ codes "stubs" ∷ codes "table" ∷ codes "output" ∷ []

-- the options for what stands before a text, behind what a command knows
abbrev pub with_before : App → App
with_before app = with_rule (with_rule (with_rule app known_rule) c_types_rule) foreign_rule

-- the four letters of `rpcgen` behind what a command knows
abbrev pub with_letters : App → App
with_letters app =
    with_rule (with_rule (with_rule (with_rule app routines_rule) header_rule) stubs_rule) table_rule

-- the options of `rpcgen` with a letter
abbrev pub lettered_app : App
lettered_app = with_rule (with_letters (plain_app (codes "rpcgen"))) output_rule

-- how faults and clashes of names are reported, behind what a command knows
abbrev pub with_reports : App → App
with_reports app = with_rule (with_rule (with_rule app explain_rule) plain_rule) strict_rule

-- `rpcgen [--help] [--version] [-c] [-h] [-l] [-t] [-o OUT] [--explain] [--plain] [--strict]
-- [--known FILE].. [--c-types] [--foreign] FILE`
unfoldable pub gen_app : App
gen_app = with_rule (with_before (with_reports lettered_app)) file_rule

-- `--check`
abbrev pub check_rule : Rule
check_rule = request_rule (codes "check") (codes "check") SetTrue

-- FILE, once or more often
abbrev pub files_rule : Rule
files_rule = record (new_rule (codes "file")) { action = Some Append; required = true }

-- `rpcgen [--help] [--version] --check [--explain] [--plain] [--strict]
-- [--known FILE].. [--c-types] [--foreign] FILE..`
unfoldable pub check_app : App
check_app = with_rule
    (with_before (with_reports (with_rule (plain_app (codes "rpcgen")) check_rule))) files_rule

-- one of the words is `--check`, and stands before each `--`
unfoldable pub has_check : List Text → Bool
has_check [] = false
has_check (word ∷ rest) =
    not (bytes_eq word (codes "--")) && (bytes_eq word (codes "--check") || has_check rest)

-- words whose first is the program's name ask for a check of files
abbrev pub asks_check : List Text → Bool
asks_check words = has_check (drop 1 words)

-- `-x SCHEMA`
abbrev pub schema_rule : Rule
schema_rule = valued_rule (codes "schema") (slice_get (codes "x") 0)

-- `-b`
abbrev pub bare_rule : Rule
bare_rule = flag_rule (codes "bare") (slice_get (codes "b") 0)

-- `-t TYPE`
abbrev pub type_rule : Rule
type_rule = valued_rule (codes "type") (slice_get (codes "t") 0)

-- `rpcdump [--help] [--version] [-x SCHEMA] [-b] [-t TYPE] [--known FILE].. [--c-types] FILE`
unfoldable pub dump_app : App
dump_app = with_rule
    (with_rule (with_rule
    (with_rule (with_rule
    (with_rule (plain_app (codes "rpcdump")) schema_rule) bare_rule) type_rule) known_rule) c_types_rule)
    file_rule

-- `rpcedit [--help] [--version] [--known FILE].. [--c-types] [--foreign] FILE`
unfoldable pub edit_app : App
edit_app = with_rule (with_before (plain_app (codes "rpcedit"))) file_rule

-- `--stdio`
abbrev pub stdio_rule : Rule
stdio_rule = request_rule (codes "stdio") (codes "stdio") SetTrue

-- `--fault-directives`
abbrev pub fault_directives_rule : Rule
fault_directives_rule = request_rule (codes "fault_directives") (codes "fault-directives") SetTrue

-- `rpcls [--help] [--version] [--stdio] [--known FILE].. [--c-types] [--foreign] [--fault-directives]`
unfoldable pub serve_app : App
serve_app = with_rule
    (with_before (with_rule (plain_app (codes "rpcls")) stdio_rule)) fault_directives_rule

-- The command was made by a chain of `.arg(..)` calls, which began with one that knows nothing, of arguments
-- of these ids.
pub record IsChain (ids : List Text) (cmd : Command) : Type 0 where
  pub start : Command
  pub args : List Arg
  pub nothing : (args_of start ≡ []) × (groups_of start ≡ [])
  pub local : (out-Command start).has_globals ≡ false
  pub negates : (out-Command start).subcommand_negates_reqs ≡ false
  pub steps : AddsInTurn AddsArg start args cmd
  pub fit : All FitsChain args
  pub ids_are : map (λ a. a.id.now) args ≡ ids

-- every parse by the command that succeeds gives the argument a value
abbrev pub AlwaysHas : Text → Command → Type 0
AlwaysHas id c = (m : ArgMatches) → IsParsedFrom c m → is_some (first_value (found_of m) id) ≡ true

-- Every parse by the command that succeeds has an entry of the argument. Nothing in it excludes anything,
-- and no argument of it is global.
pub record HasSome (id : Text) (c : Command) : Type 0 where
  pub plain : IsPlain c
  pub local : (out-Command c).has_globals ≡ false
  pub has : (m : ArgMatches) → IsParsedFrom c m → is_some (matched_of (found_of m) id) ≡ true

-- where the entry of an id came from
abbrev pub source_of : Text → List Row → Option ValueSource
source_of id rows = option_and_then (λ r. r.source) (find (λ r. bytes_eq r.id id) rows)

-- the entry came from the words, and not from a default alone
abbrev pub is_command_line : Option ValueSource → Bool
is_command_line (Some CommandLine) = true
is_command_line _ = false

-- the words themselves have the argument
abbrev pub is_in_words : Text → List Row → Bool
is_in_words id rows = is_command_line (source_of id rows)

-- all values of an id, in their order: none where it has no entry
abbrev pub every_of : Text → List Row → List Text
every_of id rows = unwrap_or (all_of id rows) []

-- the files of `--known`, as clap read them
abbrev pub AreKnown : List Row → BeforeArgs → Type 0
AreKnown rows args = map (λ s. s.now) args.known.items ≡ every_of (codes "known") rows

-- the options for what stands before a text, as clap read them
pub record IsBeforeArgs (rows : List Row) (args : BeforeArgs) : Type 0 where
  pub known : AreKnown rows args
  pub c_types : args.c_types ≡ is_in_words (codes "c_types") rows
  pub foreign : args.foreign ≡ is_in_words (codes "foreign") rows

-- the letters and values of `rpcgen`, as clap read them
pub record IsGenArgs (rows : List Row) (args : GenArgs) : Type 0 where
  pub routines : args.routines ≡ is_in_words (codes "routines") rows
  pub header : args.header ≡ is_in_words (codes "header") rows
  pub stubs : args.stubs ≡ is_in_words (codes "stubs") rows
  pub table : args.table ≡ is_in_words (codes "table") rows
  pub output : option_map (λ s. s.now) args.output ≡ first_of (codes "output") rows
  pub explains : args.explains ≡ is_in_words (codes "explain") rows
  pub plain : args.plain ≡ is_in_words (codes "plain") rows
  pub strict : args.strict ≡ is_in_words (codes "strict") rows
  pub before : IsBeforeArgs rows args.before
  pub file : Some args.file.now ≡ first_of (codes "file") rows

-- the words and files of `rpcgen --check`, as clap read them
pub record IsCheckArgs (rows : List Row) (args : CheckArgs) : Type 0 where
  pub explains : args.explains ≡ is_in_words (codes "explain") rows
  pub plain : args.plain ≡ is_in_words (codes "plain") rows
  pub strict : args.strict ≡ is_in_words (codes "strict") rows
  pub before : IsBeforeArgs rows args.before
  pub files : Some (map (λ s. s.now) args.files.items) ≡ all_of (codes "file") rows
  pub some : 0 < length args.files.items

-- the options and the value of `rpcedit`, as clap read them
pub record IsEditArgs (rows : List Row) (args : EditArgs) : Type 0 where
  pub before : IsBeforeArgs rows args.before
  pub file : Some args.file.now ≡ first_of (codes "file") rows

-- the options of `rpcls`, as clap read them
pub record IsServeArgs (rows : List Row) (args : ServeArgs) : Type 0 where
  pub stdio : args.stdio ≡ is_in_words (codes "stdio") rows
  pub before : IsBeforeArgs rows args.before
  pub faults_directives : args.faults_directives ≡ is_in_words (codes "fault_directives") rows

-- the letters and values of `rpcdump`, as clap read them
pub record IsDumpArgs (rows : List Row) (args : DumpArgs) : Type 0 where
  pub schema : option_map (λ s. s.now) args.schema ≡ first_of (codes "schema") rows
  pub bare : args.bare ≡ is_in_words (codes "bare") rows
  pub type_name : option_map (λ s. s.now) args.type_name ≡ first_of (codes "type") rows
  pub known : AreKnown rows args.before
  pub c_types : args.before.c_types ≡ is_in_words (codes "c_types") rows
  pub not_foreign : args.before.foreign ≡ false
  pub file : Some args.file.now ≡ first_of (codes "file") rows

-- what the bytes are where there is `-b`, and where there is `-t TYPE`
abbrev pub mode_by : (bare typed : Bool) → Option Mode
mode_by false false = Some Stream
mode_by true false = Some Message
mode_by false true = Some Value
mode_by true true = None

-- what the letters say that the bytes are
abbrev pub mode_of : DumpArgs → Option Mode
mode_of args = mode_by args.bare (is_some args.type_name)

abbrev pub if_asked : Bool → Which → List Which
if_asked true which = which ∷ []
if_asked false which = []

-- the texts that the letters ask for
abbrev pub asked_by : GenArgs → List Which
asked_by args =
    if_asked args.routines Routines ++ if_asked args.header Header ++ if_asked args.stubs Stubs
    ++ if_asked args.table Table

-- the text of a list that has one
abbrev pub only_of : List Which → Option Which
only_of (which ∷ []) = Some which
only_of all = None

-- A first word that asks for the help or the version is answered so, whatever follows it.
abbrev pub MindsFirst : App → Type 0
MindsFirst app = (name : Text) (rest : List Text)
    → (fault_of app (name ∷ codes "--help" ∷ rest) ≡ DisplayHelp ∷ [])
    × (fault_of app (name ∷ codes "--version" ∷ rest) ≡ DisplayVersion ∷ [])
