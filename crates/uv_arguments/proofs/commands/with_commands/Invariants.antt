-- The program has the commands so far.
use Rattle.std.proofs.Common.{◌≡◌, fold, take}
use Rattle.clap.specs.Words.{app_of}
use Rattle.uv_arguments.specs.Commands.{with_command}
use Rattle.uv_arguments.proofs.commands.with_commands.Given as goal

abbrev pub invariant-loop-row : goal.invariant-loop-row
invariant-loop-row l = app_of l.program ≡ fold with_command (app_of l.initial.program) (take l.row-index l.rows)
