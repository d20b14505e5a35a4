-- On a valid text the parser is silent.
use Rattle.std.proofs.Common.{ap, ◌∙◌}
use Rattle.uv_messages.specs.CheckText.{check_text}
use Rattle.uv_cli.proofs.check.say.Goals as goal

pub returns-in_ok-check_lines-in-Ok : goal.returns-in_ok-check_lines-in-Ok
returns-in_ok-check_lines-in-Ok c =
    let (parts, valid, denoted) = rw c.in-Ok.is at c.resolve.ensures.resolved in
    (parts, valid, (c.resolve.ensures.runs parts valid).runs, c.in_ok-check_lines-in-Ok.ensures ∙ ap check_text denoted)
