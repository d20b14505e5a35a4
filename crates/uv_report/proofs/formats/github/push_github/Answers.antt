-- The command has the escaped texts.
use Rattle.uv_report.specs.Formats.Github.{github_text}
use Rattle.uv_report.proofs.formats.github.push_github.Goals as goal

pub returns : goal.returns
unfolding github_text
returns c =
    rw (
      c.in_ok-push_str.ensures.bytes,
      c.as_str.ensures.value,
      c.in_ok-command.ensures.ok,
      c.in_ok-file.ensures,
      c.in_ok-rule.ensures,
      c.in_ok-message.ensures,
    )
