-- The failure has the escaped texts.
use Rattle.uv_report.specs.Formats.Junit.{failure}
use Rattle.uv_report.proofs.formats.junit.push_failure.Goals as goal

pub returns : goal.returns
unfolding failure
returns c =
    rw (
      c.in_ok-push_str.ensures.bytes,
      c.as_str-2.ensures.value,
      c.in_ok-failure.ensures.ok,
      c.in_ok-rule.ensures,
      c.in_ok-message.ensures,
      c.in_ok-carried-2.ensures,
      c.as_str.ensures.value,
      c.in_ok-carried.ensures,
    )
