-- A mended text that isn't written.
use Rattle.std.proofs.Common.{string_bytes, ap, subst, inr}
use Rattle.uv_filter.specs.Fates.{StaysRefused}
use Rattle.uv_filter.proofs.line_filter.LineFilter.mended.Goals as goal

pub returns-else-writes : goal.returns-else-writes
returns-else-writes c = (
  λ same. cc,
  (
    record { some = c.requires; utf8 = c.utf8.text },
    subst (λ mender. StaysRefused mender c.args.text.now) (ap (λ f. f.mender) c.self.view_is) (inr (
      string_bytes c.in-Mended.mended,
      c.in-Mended.kind,
      rw c.in-Mended.is at c.in_ok-mend.ensures,
      c.writes.ensures.left c.if-writes.false,
    )),
  ),
)
