-- What the words of the program request. `clap` says which words a simple command has.
use Rattle.std.specs.Prelude.{◌≡◌, Bool, List, [], Option, Some, None, true, false, codes, map}
use Rattle.std.specs.Prelude.{option_map, if◌then◌else◌}
use Rattle.std.specs.Option.{option_map_or, unwrap_or}
use Rattle.std.specs.Str.{bytes_eq}
use Rattle.clap.specs.Words.{App, Row, Rule, Text, all_of, app_of, first_of, new_app, new_rule}
use Rattle.clap.specs.Words.{rule_of, subcommand_of, with_rule, with_subcommand}
use Rattle.clap.specs.declared.builder.Arg.{Arg}
use Rattle.clap.specs.declared.builder.action.ArgAction.TheVariants.{Append, SetTrue}
use Rattle.clap.specs.declared.builder.Command.{Command}
use Rattle.clap.specs.declared.builder.command.Command.TheViews.{out-Command}
use Rattle.pay_cli.specs.declared.words.Job.{Job}
use Rattle.pay_cli.specs.declared.words.Job.TheVariants.{Check, Desk, Node, Export, Audit, Book}
use Rattle.pay_cli.specs.declared.words.Job.TheVariants.{Statement, Journal, Sim}

-- an option with a word
abbrev pub option_rule : Text → Rule
option_rule name = record (new_rule name) { long = Some name; value_names = 1 }

-- an option without which the words aren't read
abbrev pub required_rule : Text → Rule
required_rule name = record (option_rule name) { required = true }

-- an option without a word
abbrev pub flag_rule : Text → Rule
flag_rule name = record (new_rule name) { long = Some name; action = Some SetTrue }

-- `check`, with a genesis and keys, and a flag to say what values pay
abbrev pub check_app : App
check_app =
    with_rule
    (with_rule (with_rule (new_app (codes "check")) (option_rule (codes "genesis")))
    (option_rule (codes "keys")))
    (flag_rule (codes "values"))

-- `desk`, which needs a genesis and keys
abbrev pub desk_app : App
desk_app =
    with_rule (with_rule (new_app (codes "desk")) (required_rule (codes "genesis")))
    (required_rule (codes "keys"))

-- `node`, which needs a genesis, keys and ports. It may have dials, a pipelining depth, a folder,
-- flags to make the member there and to stay with it, and a socket
abbrev pub node_app : App
node_app =
    with_rule
    (with_rule
    (with_rule
    (with_rule
    (with_rule
    (with_rule
    (with_rule
    (with_rule (with_rule (new_app (codes "node")) (required_rule (codes "genesis")))
    (required_rule (codes "keys")))
    (required_rule (codes "ports")))
    (option_rule (codes "dials")))
    (option_rule (codes "ahead")))
    (option_rule (codes "data")))
    (flag_rule (codes "new")))
    (flag_rule (codes "stay")))
    (option_rule (codes "socket"))

-- `export`, which needs a genesis, keys and a folder
abbrev pub export_app : App
export_app =
    with_rule
    (with_rule (with_rule (new_app (codes "export")) (required_rule (codes "genesis")))
    (required_rule (codes "keys")))
    (required_rule (codes "data"))

-- the names of one or more files
abbrev pub files_rule : Rule
files_rule =
    record (new_rule (codes "files")) { required = true; action = Some Append; value_names = 1 }

-- `audit`, with files, and a flag to name all that is wrong
abbrev pub audit_app : App
audit_app = with_rule (with_rule (new_app (codes "audit")) files_rule) (flag_rule (codes "all"))

-- `book`, with files, and flags to write a genesis or an export
abbrev pub book_app : App
book_app =
    with_rule
    (with_rule (with_rule (new_app (codes "book")) files_rule) (flag_rule (codes "genesis")))
    (flag_rule (codes "export"))

-- the name of a file with an export
abbrev pub export_rule : Rule
export_rule = record (new_rule (codes "export")) { required = true; value_names = 1 }

-- an account's number
abbrev pub account_rule : Rule
account_rule = record (new_rule (codes "account")) { value_names = 1 }

-- `statement`, with an export, and perhaps an account
abbrev pub statement_app : App
statement_app = with_rule (with_rule (new_app (codes "statement")) export_rule) account_rule

-- `journal`, with an export, and perhaps a date
abbrev pub journal_app : App
journal_app =
    with_rule (with_rule (new_app (codes "journal")) export_rule) (option_rule (codes "date"))

-- `sim`, without arguments
abbrev pub sim_app : App
sim_app = new_app (codes "sim")

-- the program without its commands: it has a version, and no command for help
abbrev pub payd_alone : App
payd_alone = record (new_app (codes "payd")) {
  top = record (new_app (codes "payd")).top { disable_help_subcommand = true; has_version = true };
}

-- the program
abbrev pub payd_app : App
payd_app =
    with_subcommand
    (with_subcommand
    (with_subcommand
    (with_subcommand
    (with_subcommand
    (with_subcommand
    (with_subcommand
    (with_subcommand (with_subcommand payd_alone check_app.top) desk_app.top) node_app.top)
    export_app.top)
    audit_app.top)
    book_app.top)
    statement_app.top)
    journal_app.top)
    sim_app.top

-- a command as these definitions have it, without an option for all commands
pub record IsCommand (c : Command) (a : App) : Type 0 where
  pub app : app_of c ≡ a
  pub globals : (out-Command c).has_globals ≡ false

-- an argument that is a rule, and isn't for all commands
pub record IsArgument (o : Arg) (r : Rule) : Type 0 where
  pub rule : rule_of o ≡ r
  pub global : o.global ≡ false

-- A command and its arguments: the names of files, of a folder and of a socket, an account, and a
-- date. Flags say whether a check tells what values pay, whether an audit names all that is wrong,
-- and how a group ledger is written. A node has its dials, its pipelining depth, and whether its
-- member is made and stays.
pub data Asked : Type 0 where
  check : Option Text → Option Text → Bool → Asked
  desk : Text → Text → Asked
  node : Text → Text → Text → Option Text → Option Text → Option Text → Bool → Bool → Option Text
      → Asked
  exported : Text → Text → Text → Asked
  audit : List Text → Bool → Asked
  book : List Text → Bool → Bool → Asked
  statement : Text → Option Text → Asked
  journal : Text → Option Text → Asked
  sim : Asked

-- what a job is, with the texts that it lends
abbrev pub view_of_job : Job → Asked
view_of_job (Check genesis keys tells_values) =
    check (option_map (λ name. name.now) genesis) (option_map (λ name. name.now) keys) tells_values
view_of_job (Desk genesis keys) = desk genesis.now keys.now
view_of_job (Node words) =
    node words.genesis.now words.keys.now words.ports.now
    (option_map (λ word. word.now) words.dials)
    (option_map (λ word. word.now) words.ahead)
    (option_map (λ name. name.now) words.folder) words.makes_new words.stays
    (option_map (λ name. name.now) words.socket)
view_of_job (Export genesis keys folder) = exported genesis.now keys.now folder.now
view_of_job (Audit files all) = audit (map (λ name. name.now) files.items) all
view_of_job (Book files as_genesis as_export) =
    book (map (λ name. name.now) files.items) as_genesis as_export
view_of_job (Statement export account) =
    statement export.now (option_map (λ word. word.now) account)
view_of_job (Journal export date) = journal export.now (option_map (λ word. word.now) date)
view_of_job Sim = sim

-- whether a flag is given
abbrev pub is_set : Text → List Row → Bool
is_set flag rows = option_map_or (λ word. bytes_eq word (codes "true")) (first_of flag rows) false

-- what the words of a command request
abbrev pub check_asked : List Row → Asked
check_asked rows =
    check (first_of (codes "genesis") rows) (first_of (codes "keys") rows)
    (is_set (codes "values") rows)

-- the value of an option that has to be there: the words aren't read without it
abbrev pub required_text : Text → List Row → Text
required_text option rows = unwrap_or (first_of option rows) []

abbrev pub desk_asked : List Row → Asked
desk_asked rows = desk (required_text (codes "genesis") rows) (required_text (codes "keys") rows)

abbrev pub node_asked : List Row → Asked
node_asked rows =
    node (required_text (codes "genesis") rows) (required_text (codes "keys") rows)
    (required_text (codes "ports") rows)
    (first_of (codes "dials") rows) (first_of (codes "ahead") rows) (first_of (codes "data") rows)
    (is_set (codes "new") rows) (is_set (codes "stay") rows) (first_of (codes "socket") rows)

abbrev pub export_asked : List Row → Asked
export_asked rows =
    exported (required_text (codes "genesis") rows) (required_text (codes "keys") rows)
    (required_text (codes "data") rows)

abbrev pub files_of : List Row → List Text
files_of rows = unwrap_or (all_of (codes "files") rows) []

abbrev pub audit_asked : List Row → Asked
audit_asked rows = audit (files_of rows) (is_set (codes "all") rows)

abbrev pub book_asked : List Row → Asked
book_asked rows =
    book (files_of rows) (is_set (codes "genesis") rows) (is_set (codes "export") rows)

abbrev pub statement_asked : List Row → Asked
statement_asked rows =
    statement (required_text (codes "export") rows) (first_of (codes "account") rows)

abbrev pub journal_asked : List Row → Asked
journal_asked rows = journal (required_text (codes "export") rows) (first_of (codes "date") rows)

abbrev pub asked_of : Text → List Row → Asked
asked_of name rows =
    if bytes_eq name (codes "desk") then desk_asked rows
    else if bytes_eq name (codes "node") then node_asked rows
    else if bytes_eq name (codes "export") then export_asked rows
    else if bytes_eq name (codes "audit") then audit_asked rows
    else if bytes_eq name (codes "book") then book_asked rows
    else if bytes_eq name (codes "statement") then statement_asked rows
    else if bytes_eq name (codes "journal") then journal_asked rows
    else if bytes_eq name (codes "sim") then sim
    else check_asked rows

-- the job of the command, or `check` without one
-- page: `job_of_command`: a job is what the words request, as `clap` describes a simple command
abbrev pub job_of_command : Option (Text × List Row) → Asked
job_of_command command =
    option_map_or (λ met. asked_of met.0 met.1) command (check None None false)

-- what these words request, with the program's name as the first of them
abbrev pub job_of_words : List Text → Asked
job_of_words words = job_of_command (subcommand_of payd_app words)
