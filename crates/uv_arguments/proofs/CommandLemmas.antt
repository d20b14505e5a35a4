-- A command with one more option, and the program with one more command.
use Rattle.std.proofs.Common.{◌≡◌, ◌∙◌, ℕ, ◌+◌, ◌<◌, ◌||◌, List, [], ◌∷◌, ap₂, false, fold, get_or, length, take}
use Rattle.std.proofs.lemmas.Grind.{fold-append}
use Rattle.std.proofs.lemmas.List.{take_more}
use Rattle.clap.specs.Words.{AddsArg, AddsSubcommand, App, app_of, rule_of, with_rule, with_subcommand}
use Rattle.clap.specs.declared.builder.arg.Arg.{Arg}
use Rattle.clap.specs.declared.builder.command.Command.{Command}
use Rattle.uv_arguments.specs.Commands.{app_in, option_rule, with_command, with_option, IsApp}
use Rattle.uv_arguments.specs.declared.table.CommandRow.{CommandRow}
use Rattle.uv_arguments.specs.declared.table.OptionRow.{OptionRow}

-- the command with the options up to the next place, and with that one
pub options_more : (options : List OptionRow) (at : ℕ) (none : OptionRow) (a : App) (old new : Command) (arg : Arg)
    → at < length options → IsApp (fold with_option a (take at options)) old
    → rule_of arg ≡ option_rule (get_or options at none).form (get_or options at none).name.now
    → arg.global ≡ false → AddsArg old arg new → IsApp (fold with_option a (take (at + 1) options)) new
options_more options at none a old new arg within is rule local added =
    rw (take_more options at none within)
    (rw (fold-append with_option a (take at options) (get_or options at none ∷ []))
    ((added.shape local ∙ ap₂ with_rule is.0 rule, added.globals ∙ ap₂ (λ x y. x || y) is.1 local)))

-- the program with the commands up to the next place, and with that one
pub commands_more : (rows : List CommandRow) (at : ℕ) (none : CommandRow) (a : App) (old new sub : Command)
    → at < length rows → app_of old ≡ fold with_command a (take at rows)
    → IsApp (app_in (get_or rows at none)) sub → AddsSubcommand old sub new
    → app_of new ≡ fold with_command a (take (at + 1) rows)
commands_more rows at none a old new sub within is added_app added =
    rw (take_more rows at none within)
    (rw (fold-append with_command a (take at rows) (get_or rows at none ∷ []))
    (added.shape added_app.1 ∙ ap₂ (λ x (b : App). with_subcommand x b.top) is added_app.0))
