-- The tokens, one after the other.
use Rattle.std.proofs.Common.{append_assoc}
use Rattle.uv_report.specs.Formats.Rdjson.{told_members}
use Rattle.uv_report.proofs.formats.rdjson.write_members.Goals as goal

pub returns : goal.returns
unfolding told_members
returns c =
    rw (
      c.in_ok-write_suggestions.ensures,
      c.in_ok-write-2.ensures,
      c.in_ok-write_range.ensures,
      c.in_ok-write.ensures,
    )
    (simp append_assoc)
