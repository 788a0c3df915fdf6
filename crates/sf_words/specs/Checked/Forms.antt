-- What the reader of command lines is told of the commands, and where its matches have a value.
-- Nothing is said here of the grammar: each command has one list of operands, and options.
use Rattle.std.specs.Prelude.{◌≡◌, true, List, [], Some, codes, unwrap_or}
use Rattle.clap.specs.Simple.{on_top}
use Rattle.clap.specs.Walk.{all_of}
use Rattle.clap.specs.Words.{AddsSubcommand, App, Row, Rule, Shape, app_of, new_app, new_rule}
use Rattle.clap.specs.Words.{with_rule, with_subcommand}
use Rattle.clap.specs.declared.builder.action.ArgAction.TheVariants.{Append}
use Rattle.clap.specs.declared.builder.command.Command.{Command}
use Rattle.sf_words.specs.Words.{Text}

-- the name under which the operands stand
abbrev pub operands_id : Text
operands_id = codes "operands"

-- the operands, one list of any length
abbrev pub operands_rule : Rule
operands_rule = record (new_rule operands_id) { action = Some Append }

-- an option, each of whose values is kept
abbrev pub option_rule : Text → Rule
option_rule name = record (new_rule name) { long = Some name; action = Some Append }

-- a command with operands and no option
abbrev pub bare_form : Text → App
bare_form name = with_rule (new_app name) operands_rule

abbrev pub verify_form : App
verify_form = with_rule (bare_form (codes "verify")) (option_rule (codes "workers"))

-- a command of that name that runs a procedure
abbrev pub run_form : Text → App
run_form name = with_rule (with_rule (bare_form name) (option_rule (codes "steps")))
    (option_rule (codes "waits"))

-- the program: its commands, with no forms of help and of the version, and no name of its own
abbrev pub silent : Shape → Shape
silent s = record s {
  no_binary_name = true;
  disable_help_flag = true;
  disable_help_subcommand = true;
  disable_version_flag = true;
  subcommand_required = true;
}

abbrev pub program_form : App
program_form = with_subcommand (with_subcommand (with_subcommand (with_subcommand
    (with_subcommand (with_subcommand (with_subcommand (with_subcommand
    (on_top silent (new_app (codes "smallfoot"))) verify_form.top)
    (bare_form (codes "recheck")).top) (run_form (codes "run")).top) (bare_form (codes "demo")).top)
    (bare_form (codes "order")).top) (bare_form (codes "replay")).top)
    (bare_form (codes "witness")).top) (run_form (codes "journal")).top

-- the values that stand under a name, in order
abbrev pub values_at : Text → List Row → List Text
values_at id rows = unwrap_or (all_of id rows) []

-- a program to which the command is added has one more command of that form
abbrev pub IsAddedAs : App → Command → Type 0
IsAddedAs form command = (old new : Command) → AddsSubcommand old command new
    → app_of new ≡ with_subcommand (app_of old) form.top
