-- The tokens, one after the other.
use Rattle.std.proofs.Common.{append_assoc}
use Rattle.uv_report.proofs.formats.gitlab.write_issue.Goals as goal

pub returns : goal.returns
returns c =
    rw (
      c.in_ok-write-2.ensures,
      c.in_ok-text.ensures,
      c.in_ok-write.ensures,
      c.as_str.ensures.value,
      c.in_ok-fingerprint.ensures,
    )
    (simp append_assoc)
