-- The commands of the program, as what `clap`'s definition reads of them: each option and each text to be given; and
-- what it reads of the rows of the table.
use Rattle.std.specs.Prelude.{◌≡◌, Bool, List, [], ◌∷◌, Option, Some, None, codes, fold, true, false, if◌then◌else◌}
use Rattle.clap.specs.Words.{App, Rule, Shape, Text, app_of, new_app, new_rule, with_rule, with_subcommand}
use Rattle.clap.specs.Simple.{new_shape, on_top}
use Rattle.clap.specs.declared.builder.action.ArgAction.TheVariants.{Append, SetTrue}
use Rattle.clap.specs.declared.builder.command.Command.{Command}
use Rattle.clap.specs.declared.builder.command.Command.TheViews.{out-Command}
use Rattle.uv_arguments.specs.declared.table.CommandRow.{CommandRow}
use Rattle.uv_arguments.specs.declared.table.OptionForm.{OptionForm}
use Rattle.uv_arguments.specs.declared.table.OptionForm.TheVariants.{Flag, Letter, Value}
use Rattle.uv_arguments.specs.declared.table.OptionRow.{OptionRow}
use Rattle.uv_arguments.specs.declared.table.TextRow.{TextRow}

-- ---- the command line

-- an option, by its name
abbrev pub long_rule : Text → Rule
long_rule id = record (new_rule id) { long = Some id }

-- an option with a value
abbrev pub value_rule : Text → Rule
value_rule id = record (long_rule id) { value_names = 1 }

-- an option without a value
abbrev pub flag_rule : Text → Rule
flag_rule id = record (long_rule id) { action = Some SetTrue }

-- `--quiet`, which is `-q` too
abbrev pub quiet_rule : Rule
quiet_rule = record (flag_rule (codes "quiet")) { short = Some 113 }

-- `--in-place`, which is `-i` too
abbrev pub in_place_rule : Rule
in_place_rule = record (flag_rule (codes "in-place")) { short = Some 105 }

-- texts: whether there has to be one, and whether there may be several
abbrev pub text_rule : Text → Bool → Bool → Rule
text_rule id required repeated =
    record (new_rule id) { required = required; action = if repeated then Some Append else None }

-- a command with these arguments
abbrev pub command_shape : Text → List Rule → Shape
command_shape id rules = record (new_shape id) { rules = rules }

-- `check [--base URL] [--all] [--profile PROFILE] [--wide] TEXT`
abbrev pub check_command : Shape
check_command = command_shape (codes "check") (
    value_rule (codes "base") ∷ flag_rule (codes "all") ∷ value_rule (codes "profile") ∷ flag_rule (codes "wide")
    ∷ text_rule (codes "TEXT") true false ∷ [])

-- `lint [--base URL] [--all] [--profile PROFILE] [--wide] [--format FORMAT] [--columns UNIT] [--located]
-- [--stdin-name NAME] [--color WHEN] [--quiet] FILE..`
abbrev pub lint_command : Shape
lint_command = command_shape (codes "lint") (
    value_rule (codes "base") ∷ flag_rule (codes "all") ∷ value_rule (codes "profile") ∷ flag_rule (codes "wide")
    ∷ value_rule (codes "format") ∷ value_rule (codes "columns") ∷ flag_rule (codes "located")
    ∷ value_rule (codes "stdin-name") ∷ value_rule (codes "color") ∷ quiet_rule
    ∷ text_rule (codes "FILE") true true ∷ [])

-- `links [--base URL] [--profile PROFILE] [--wide]`
abbrev pub links_command : Shape
links_command = command_shape (codes "links") (
    value_rule (codes "base") ∷ value_rule (codes "profile") ∷ flag_rule (codes "wide") ∷ [])

-- `mend [--base URL] [--profile PROFILE] [--wide] [--in-place] [--only KIND] [--all-mended] [--quiet]
-- [TEXT..]`
abbrev pub mend_command : Shape
mend_command = command_shape (codes "mend") (
    value_rule (codes "base") ∷ value_rule (codes "profile") ∷ flag_rule (codes "wide") ∷ in_place_rule
    ∷ value_rule (codes "only") ∷ flag_rule (codes "all-mended") ∷ quiet_rule
    ∷ text_rule (codes "TEXT") false true ∷ [])

-- `vectors FILE`
abbrev pub vectors_command : Shape
vectors_command = command_shape (codes "vectors") (text_rule (codes "FILE") true false ∷ [])

-- `explain [--url] [RULE..]`
abbrev pub explain_command : Shape
explain_command =
    command_shape (codes "explain") (flag_rule (codes "url") ∷ text_rule (codes "RULE") false true ∷ [])

-- a command has to be given, without any argument there is help, and there is `--version`
abbrev pub with_required : App → App
with_required = on_top (λ s. record s {
  arg_required_else_help = true;
  subcommand_required = true;
  has_version = true;
  has_long_version = true;
})

-- the program's six commands
abbrev pub urlcheck : App
urlcheck = with_subcommand (with_subcommand (with_subcommand (with_subcommand (with_subcommand (with_subcommand
    (with_required (new_app (codes "urlcheck"))) check_command) lint_command) links_command)
    mend_command) vectors_command) explain_command

-- the command is read as the App, and no argument of it is global
abbrev pub IsApp : App → Command → Type 0
IsApp a c = (app_of c ≡ a) × ((out-Command c).has_globals ≡ false)

-- ---- the table

-- what is read of an option, by its form
abbrev pub option_rule : OptionForm → Text → Rule
option_rule (Value shown) id = value_rule id
option_rule Flag id = flag_rule id
option_rule (Letter letter) id = record (flag_rule id) { short = Some letter }

-- the command with one more option
abbrev pub with_option : App → OptionRow → App
with_option a row = with_rule a (option_rule row.form row.name.now)

-- the command with its texts
abbrev pub with_texts : App → Option TextRow → App
with_texts a None = a
with_texts a (Some row) = with_rule a (text_rule row.name.now row.is_required row.is_repeated)

-- the command of a row
abbrev pub app_in : CommandRow → App
app_in row = with_texts (fold with_option (new_app row.name.now) row.options.now) row.texts

-- the program with one more command
abbrev pub with_command : App → CommandRow → App
with_command a row = with_subcommand a (app_in row).top
