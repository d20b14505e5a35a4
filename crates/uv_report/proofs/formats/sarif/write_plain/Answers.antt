-- The tokens, one after the other.
use Rattle.std.proofs.Common.{append_assoc}
use Rattle.uv_report.proofs.formats.sarif.write_plain.Goals as goal

pub returns : goal.returns
returns c =
    rw (c.in_ok-write_members.ensures, c.in_ok-write.ensures)
    (simp append_assoc)
