-- The command has one option more.
use Rattle.uv_arguments.proofs.CommandLemmas.{options_more}
use Rattle.uv_arguments.proofs.commands.command.Goals as goal

pub loop-option-preserved : goal.loop-option-preserved
loop-option-preserved c =
    options_more c.args.row.now.options.now c.loop-option.option-index _ _ c.loop-option.command c.in_ok-command.command
    c.option_arg.result c.loop-option-test.true c.loop-option.invariant c.option_arg.ensures.rule
    c.option_arg.ensures.local c.in_ok-command.ensures
