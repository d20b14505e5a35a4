-- The tokens, one after the other.
use Rattle.std.proofs.Common.{append_assoc}
use Rattle.uv_report.proofs.formats.sarif.write_members.Goals as goal

pub returns : goal.returns
returns c =
    rw (
      c.in_ok-write_violation.ensures,
      c.in_ok-object_of-2.ensures,
      c.in_ok-object_of.ensures,
      c.in_ok-write_location.ensures,
      c.in_ok-text.ensures,
      c.as_str.ensures.value,
      c.in_ok-fingerprint.ensures,
      c.requires,
    )
    (simp append_assoc)
