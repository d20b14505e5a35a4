-- The program has one command more.
use Rattle.uv_arguments.proofs.CommandLemmas.{commands_more}
use Rattle.uv_arguments.proofs.commands.with_commands.Goals as goal

pub loop-row-preserved : goal.loop-row-preserved
loop-row-preserved c =
    commands_more c.args.rows.now c.loop-row.row-index _ _ c.loop-row.program c.in_ok-program.program
    c.in_ok-command.field-0 c.loop-row-test.true c.loop-row.invariant c.in_ok-command.ensures c.in_ok-program.ensures
