-- The tokens, one after the other.
use Rattle.std.proofs.Common.{append_assoc}
use Rattle.uv_report.proofs.formats.sarif.write_location.Goals as goal

pub returns : goal.returns
returns c =
    rw (c.in_ok-write-2.ensures, c.in_ok-write_region.ensures, c.in_ok-write.ensures)
    (simp append_assoc)
