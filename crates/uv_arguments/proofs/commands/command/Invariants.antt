-- The command has the options so far.
use Rattle.std.proofs.Common.{fold, take}
use Rattle.clap.specs.Words.{new_app}
use Rattle.uv_arguments.specs.Commands.{with_option, IsApp}
use Rattle.uv_arguments.proofs.commands.command.Given as goal

abbrev pub invariant-loop-option : goal.invariant-loop-option
invariant-loop-option l =
    IsApp (fold with_option (new_app l.row.name.now) (take l.option-index l.row.options.now)) l.command
