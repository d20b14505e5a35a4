-- The tokens, one after the other.
use Rattle.std.proofs.Common.{append_assoc}
use Rattle.uv_report.specs.Formats.Sarif.{violation_members}
use Rattle.uv_report.proofs.formats.sarif.write_violation.Goals as goal

pub returns : goal.returns
unfolding violation_members
returns c =
    rw (
      c.in_ok-write_index.ensures,
      c.in_ok-text.ensures,
      c.in_ok-write.ensures,
      c.is_cut.ensures,
      c.requires,
    )
    (simp append_assoc)
