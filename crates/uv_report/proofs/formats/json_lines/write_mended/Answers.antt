-- The tokens, one after the other.
use Rattle.std.proofs.Common.{refl}
use Rattle.uv_report.proofs.formats.json_lines.write_mended.Goals as goal

pub returns : goal.returns
returns c =
    rw (c.in_ok-write.ensures, c.name.ensures, c.is_cut.ensures, c.requires) refl
