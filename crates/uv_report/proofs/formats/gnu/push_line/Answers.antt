-- The words and what the diagnostic says, one after the other.
use Rattle.std.proofs.Common.{append_assoc}
use Rattle.uv_report.specs.Formats.Gnu.{gnu_line}
use Rattle.uv_report.proofs.formats.gnu.push_line.Goals as goal

pub returns : goal.returns
unfolding gnu_line
returns c =
    rw (
      c.in_ok-push_str-4.ensures.bytes,
      c.in_ok-push_shown-3.ensures,
      c.in_ok-push_str-3.ensures.bytes,
      c.in_ok-push_shown-2.ensures,
      c.in_ok-push_str-2.ensures.bytes,
      c.as_str.ensures.value,
      c.in_ok-place.ensures.ok,
      c.in_ok-push_shown.ensures,
      c.in_ok-push_str.ensures.bytes,
    )
    (simp append_assoc)
